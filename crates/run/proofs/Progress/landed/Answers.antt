use mathlib.Core.Path.{refl, ap, ◌∙◌}
use Prim.Native.Nat.{ℕ, ◌+◌}
use Rattle.rules.specs.Facts.{changed}
use Rattle.facts.specs.Sets.{set_of}
use Rattle.run.proofs.Progress.landed.Goals as goal

pub returns : goal.returns
returns c =
    let facts = set_of c.args.self.facts in
    record {
      facts = c.changed-facts.ensures
          ∙ (λ i. changed (c.dels-dels.ensures i) (c.adds-adds.ensures i) facts);
      height = ap (λ (n : ℕ). c.args.below + n) c.left.ensures;
      operators = refl;
      steps = ap (λ (n : ℕ). c.args.self.steps + n) c.steps.ensures;
      cost = ap (λ (n : ℕ). c.args.self.cost + n) c.cost.ensures;
    }
