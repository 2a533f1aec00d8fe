use mathlib.Core.Path.{◌≡◌}
use Prim.Native.Nat.{◌-◌}
use lib.ListN.{length, take, drop}
use Rattle.rules.specs.Tables.{method}
use Rattle.words.specs.Words.{table_of}
use Rattle.rows.specs.Stacks.{stack_of}
use Rattle.rows.proofs.put_rest.Given as goal

abbrev pub invariant-loop-h : goal.invariant-loop-h
invariant-loop-h l =
    record {
      kept : take l.c l.cells ≡ take l.c l.initial.cells;
      stack : stack_of (drop l.c l.cells) l.h ≡ drop (length (method (table_of l.words.all.now) l.k).subs - l.h) (method (table_of l.words.all.now) l.k).subs;
    }
