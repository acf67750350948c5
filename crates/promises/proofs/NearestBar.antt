-- Request (x) is proved, from the theorems of the crates nearest and chart_reader.
use Rattle.nearest.proofs.Theorems.{nearest_answers, nearest_none, neighbours_none}
use Rattle.chart_reader.proofs.Theorems.{accepts, free_answer, strokes_free, taken_followed}
use Rattle.promises.specs.NearestBar.{NearestBar}

pub nearest_bar_lem : NearestBar
nearest_bar_lem = record { answer = nearest_answers; no_bar = nearest_none; neighbours = neighbours_none; reader = free_answer; strokes = strokes_free; taken = accepts; followed = taken_followed }
