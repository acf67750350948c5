use Rattle.std.proofs.Common.{rules, ◌<◌}
use Rattle.std.specs.Prelude.{codes}
use Rattle.std.proofs.lemmas.List.Elements.{All-from_recursion}
use Rattle.std.proofs.lemmas.Str.Ascii.{IsAscii-from_all}
use Rattle.bend.proofs.save.put_letters.Goals as goal

-- each code of the name's first form is one of ASCII
pub loop-i-init : goal.loop-i-init
loop-i-init c =
    let text = codes "bend.chart.aaaaaaaaaaaaaaaa" in
    IsAscii-from_all text (All-from_recursion (λ b. b < 128) text (search rules))
