use mathlib.Core.Path.{refl}
use native.Mathlib.Omega.{arith}
use Rattle.std.proofs.Common.{Ok, Err}
use Rattle.std.proofs.lemmas.Result.{err_from_is_err_and}
use Rattle.emission.proofs.JobLaws.{answered, refusal_does, problem_does}
use Rattle.emission.proofs.open.Goals as goal

pub returns-in_err-open : goal.returns-in_err-open
returns-in_err-open c =
    let s = c.args.input.now in
    let opens = rw (c.byte-bound.ensures, c.byte-form.ensures, c.split.ensures.back) at c.in_err-open.ensures in
    let told = err_from_is_err_and c.from_residual.result c.from_residual.ensures.1 in
    rw (told.1, told.2) (refusal_does s _ _ _ (answered s c.«open».new.words (Err _) opens.answers))

pub returns : goal.returns
returns c =
    let s = c.args.input.now in
    let opens = rw (c.byte-bound.ensures, c.byte-form.ensures, c.split.ensures.back) at c.in_ok-open.ensures in
    let usable = opens.known refl in
    rw (c.byte-bound.ensures, c.byte-form.ensures) (problem_does s _ _ _ _ (answered s c.«open».new.words (Ok tt) opens.answers)
    (record { held = usable.held; high = omega (arith, usable.high, c.byte-bound.ensures); filled = c.fill_figures.ensures }))
