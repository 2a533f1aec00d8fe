use mathlib.Core.Path.{◌≡◌, sym, ap, ◌∙◌}
use mathlib.Core.List.{List, [], ◌∷◌, ◌++◌}
use Prim.Native.Nat.{ℕ, ◌+◌, ◌-◌, ◌/◌, ◌%◌}
use native.Mathlib.Omega.{arith}
use lib.ListN.{take}
use lib.Seq.{drop-drop}
use borrow.Rule.Slice.PartMut.{put_mid}
use Rattle.laws.proofs.StoreLaws.{stored}
use Rattle.step_list.proofs.put_word.Goals as goal

pub returns : goal.returns
returns c =
    let a = c.args in
    let high : a.word / 256 % 256 ≡ a.word / 256 = omega arith in
    let two : a.at + 2 - a.at ≡ 2 = omega arith in
    let bytes : List ℕ = (a.word % 256) ∷ (a.word / 256) ∷ [] in
    let e = c.copy_from_slice.ensures.after ∙ c.to_le_bytes-bytes.ensures ∙ ap (λ (b : ℕ). (a.word % 256) ∷ b ∷ []) high in
    ap (λ (k : ℕ). put_mid a.at k a.out.now c.copy_from_slice.new.self) two
    ∙ ap (put_mid a.at 2 a.out.now) e
    ∙ ap (λ (rest : List ℕ). take a.at a.out.now ++ (bytes ++ rest)) (drop-drop 2 a.at a.out.now)
    ∙ sym (stored a.out.now bytes a.at c.requires)
