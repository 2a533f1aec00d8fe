use mathlib.Core.Path.{ap, ◌∙◌}
use mathlib.Core.List.{List}
use Prim.Native.Nat.{ℕ, ◌+◌}
use lib.ListN.{set}
use Rattle.facts.specs.Sets.{set_of, action_read}
use Rattle.words.proofs.PutLaws.{put_action}
use Rattle.words.proofs.put_action.Goals as goal

pub returns : goal.returns
returns c =
    let a = c.args in
    let p3 = c.put-3.ensures in
    let p2 = c.put-2.ensures in
    let p1 = c.put.ensures in
    put_action a.words.now a.b (action_read a.a) c.requires _
    (ap (λ (w : List ℕ). set w (a.b + 3) a.a.cost)
    (p3 ∙ ap (λ (w : List ℕ). set w (a.b + 2) (set_of a.a.dels)) (p2 ∙ ap (λ (w : List ℕ). set w (a.b + 1) (set_of a.a.adds)) p1)))
