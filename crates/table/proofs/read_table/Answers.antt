use mathlib.Core.Path.{ap, sym}
use native.Mathlib.Omega.{arith}
use borrow.Author.Tests.{le-ltb}
use Rattle.basics.specs.Readings.{got}
use Rattle.rules.specs.Tables.{Table, decode, closed}
use Rattle.words.specs.Words.{header_read}
use Rattle.table.proofs.WordLaws.{table_held}
use Rattle.laws.proofs.TableLaws.{bounded}
use Rattle.table.proofs.read_table.Goals as goal

pub all_facts-top-requires : goal.all_facts-top-requires
all_facts-top-requires c = (bounded c.args.s.now 0 (sym c.in_ok-h.ensures)).facts

pub read_actions-requires : goal.read_actions-requires
read_actions-requires c =
    let b = bounded c.args.s.now 0 (sym c.in_ok-h.ensures) in
    let l0 = c.put_header.auto.words in
    omega arith

pub overflow_add-last : goal.overflow_add-last
overflow_add-last c = let b = bounded c.args.s.now 0 (sym c.in_ok-h.ensures) in omega arith

pub overflow_sub-last : goal.overflow_sub-last
overflow_sub-last c = let b = bounded c.args.s.now 0 (sym c.in_ok-h.ensures) in omega arith

pub read_methods-requires : goal.read_methods-requires
read_methods-requires c =
    let b = bounded c.args.s.now 0 (sym c.in_ok-h.ensures) in
    let l0 = c.put_header.auto.words in
    let l1 = c.read_actions.auto.words in
    omega arith

pub returns : goal.returns
unfolding decode closed
returns c =
    let b = bounded c.args.s.now 0 (sym c.in_ok-h.ensures) in
    let w₁ = c.put_header.new.words in
    let w₂ = c.read_actions.new.words in
    let w₃ = c.read_methods.new.words in
    let t = table_held w₁ w₂ w₃ (header_read c.in_ok-h.h) c.put_header.ensures c.read_actions.ensures.1 c.read_methods.ensures.1 b.actions in
    rw (← c.in_ok-h.ensures, ← c.all_facts-top.ensures, ← c.in_ok-at.ensures.0, ← c.in_ok-end.ensures.0, le-ltb _ _ c.if-end-s.false)
    (ap (λ (x : Table). got x c.in_ok-end.end) t)
