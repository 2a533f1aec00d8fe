-- A fact's line as it is written, and the lines of a set's facts one by one.
use mathlib.Core.Path.{◌≡◌, refl, sym, ap, ◌∙◌}
use mathlib.Core.Bool.{Bool, true, false, cond}
use mathlib.Core.List.{[], ◌++◌, append_assoc}
use mathlib.Core.Option.{none, some}
use Prim.Native.Nat.{ℕ, ◌+◌, ◌*◌}
use native.Mathlib.Nat.{mul-suc}
use native.Mathlib.Numerals.{add-one}
use Rattle.basics.specs.Lists.{upto, concat}
use Rattle.basics.specs.Texts.{bytes, digits, digits_f}
use Rattle.version3.specs.Spelling.{spell_setting, spell_effect}
use Rattle.rules.specs.Facts.{has, members_of}
use Rattle.rules.specs.Problems.{set, fact_effect}
use Rattle.laws.proofs.ListLaws.{map_map}
use Rattle.laws.proofs.TextLaws.{concat_members}
use Rattle.facts.specs.Sets.{set_of}
use Rattle.listing.specs.declared.Says.{Says}
use Rattle.listing.specs.declared.Says.TheVariants.{Holds, Changes}
use Rattle.listing.specs.Listings.{fact_line, list_text, line_where}

pub holds_line : (k : ℕ) → spell_setting (set k 0) ≡ digits k ++ bytes " 0\n"
unfolding digits digits_f
holds_line k = refl

change_words : (k : ℕ) (n d : Bool) → spell_effect (record { variable = k; before = cond n (some 0) none; after = cond d 1 0 })
    ≡ bytes "0 " ++ digits k ++ cond n (bytes " 0 ") (bytes " -1 ") ++ cond d (bytes "1\n") (bytes "0\n")
unfolding digits digits_f
change_words k true true = sym (append_assoc (bytes "0 " ++ digits k) (bytes " 0 ") (bytes "1\n"))
change_words k true false = sym (append_assoc (bytes "0 " ++ digits k) (bytes " 0 ") (bytes "0\n"))
change_words k false true = sym (append_assoc (bytes "0 " ++ digits k) (bytes " -1 ") (bytes "1\n"))
change_words k false false = sym (append_assoc (bytes "0 " ++ digits k) (bytes " -1 ") (bytes "0\n"))

pub change_line : (needs dels k : ℕ) (n d : Bool) → n ≡ has needs k → d ≡ has dels k
    → spell_effect (fact_effect needs dels k) ≡ bytes "0 " ++ digits k ++ cond n (bytes " 0 ") (bytes " -1 ") ++ cond d (bytes "1\n") (bytes "0\n")
change_line needs dels k n d en ed =
    (λ i. spell_effect (record { variable = k; before = cond (sym en i) (some 0) none; after = cond (sym ed i) 1 0 })) ∙ change_words k n d

pub line_there : (says : Says) (s k : ℕ) → has s k ≡ true → line_where says s k ≡ fact_line says k
unfolding line_where
line_there says s k e = ap (λ (c : Bool). cond c (fact_line says k) []) e

pub line_missing : (says : Says) (s k : ℕ) → has s k ≡ false → line_where says s k ≡ []
unfolding line_where
line_missing says s k e = ap (λ (c : Bool). cond c (fact_line says k) []) e

pub list_lines : (says : Says) (n s : ℕ) → list_text says n s ≡ upto (line_where says s) n
unfolding line_where
list_lines Holds n s = ap concat (map_map spell_setting (λ k. set k 0) (members_of n s)) ∙ concat_members (fact_line Holds) n s
list_lines (Changes needs dels) n s =
    ap concat (map_map spell_effect (fact_effect (set_of needs) (set_of dels)) (members_of n s)) ∙ concat_members (fact_line (Changes needs dels)) n s

-- Room for k lines, and for one more.
pub lines_more : (w k : ℕ) → w * (k + 1) ≡ w * k + w
lines_more w k = rw (add-one k) (mul-suc w k)
