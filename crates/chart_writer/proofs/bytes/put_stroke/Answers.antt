-- The bytes before the column, then the column if there is one.
use mathlib.Core.Path.{sym, ◌∙◌, ap}
use native.Mathlib.Omega.{arith}
use lib.Seq.{sets}
use Rattle.std.specs.Prelude.{Some}
use Rattle.codec.specs.Numbers.{bytes16}
use Rattle.lists.proofs.Stores.{sets_append}
use Rattle.chart_writer.specs.Tables.{stroke_map, edge_bytes}
use Rattle.chart_writer.proofs.Runs.{level_bytes, upright_bytes, stroke_size_lem}
use Rattle.chart_writer.proofs.bytes.put_stroke.Goals as goal

pub put_edge-requires : goal.put_edge-requires
put_edge-requires c = (omega (arith, stroke_size_lem c.args.k c.args.c), omega arith)

pub returns-in_default-clause-bytes : goal.returns-in_default-clause-bytes
returns-in_default-clause-bytes c = c.put_edge.ensures ∙ rw c.in_default.is (ap (sets c.args.out.now c.args.at) (level_bytes c.args.k))

pub returns-in_default-clause-place : goal.returns-in_default-clause-place
returns-in_default-clause-place c = omega (arith, stroke_size_lem c.args.k c.args.c, ap stroke_map c.in_default.is)

pub put16-requires : goal.put16-requires
put16-requires c = (omega (arith, c.put_edge.auto.out, stroke_size_lem c.args.k c.args.c, ap stroke_map c.in-Some.is), omega arith)

pub returns-clause-bytes : goal.returns-clause-bytes
returns-clause-bytes c =
    let out = c.args.out.now in
    let j = c.in-Some.column in
    c.put16.ensures ∙ rw (c.put_edge.ensures, c.from.ensures, c.in-Some.is)
    (sym (sets_append (edge_bytes c.args.k (Some j)) (bytes16 j) out c.args.at) ∙ ap (sets out c.args.at) (upright_bytes c.args.k j))

pub returns-clause-place : goal.returns-clause-place
returns-clause-place c = omega (arith, stroke_size_lem c.args.k c.args.c, ap stroke_map c.in-Some.is)
