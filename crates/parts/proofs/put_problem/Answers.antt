use Rattle.text.proofs.PutLaws.{appended}
use Prim.Native.Nat.{ℕ, ◌+◌}
use mathlib.Core.Path.{ap, ◌∙◌}
use Rattle.basics.specs.Lists.{upto}
use Rattle.parts.specs.Pieces.{problem_piece}
use native.Mathlib.Omega.{arith}
use Rattle.words.specs.Words.{table_of}
use Rattle.parts.proofs.PieceLaws.{first_part, last_part}
use Rattle.report.proofs.PartLaws.{part_says, part_moves}
use Rattle.parts.proofs.put_problem.Goals as goal

pub returns-then-next-eq0 : goal.returns-then-next-eq0
returns-then-next-eq0 c =
    let w = c.put_front-size.ensures in
    let r = c.part_of.ensures in
    record {
      says = part_says _ _ _ _ _ _ r
          (first_part c.args.bound c.args.form (table_of c.args.words.all.now) _ _ c.if-next-eq0.true w.appends);
      moves = part_moves _ _ _ _ _ _ r (omega (arith, c.if-next-eq0.true)) (omega arith) (omega (arith, w.upper_bound, w.appends.size, c.requires.1));
      out_len_unchanged = w.appends.size;
    }

pub returns : goal.returns
returns c =
    let put = c.put-size.ensures in
    let r = c.part_of-2.ensures in
    let w = appended put (omega (arith, put.next, c.requires.1)) in
    let t = table_of c.args.words.all.now in
    let n = c.step_count-steps.ensures.value in record {
      says = part_says _ _ _ _ _ _ r
          (ap (λ (k : ℕ). upto (problem_piece c.args.bound c.args.form t) (k + 2)) n
          ∙ last_part c.args.bound c.args.form t _ _ (omega (arith, n, c.requires.2, c.if-next-steps.false)) w);
      moves = part_moves _ _ _ _ _ _ r (omega (arith, c.requires.2, n)) (omega (arith, n)) (omega (arith, w.next, w.size, c.requires.1));
      out_len_unchanged = w.size;
    }
