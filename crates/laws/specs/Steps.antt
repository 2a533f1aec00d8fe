-- The steps of a table by one number, its actions, then its methods, or by kind and number; and the emitted text part by part.
use Rattle.std.specs.Prelude.{ℕ, suc, ◌-◌, cond, List, ◌++◌, ltb}
use Rattle.basics.specs.Lists.{upto}
use Rattle.rules.specs.Tables.{Table, action_count}
use Rattle.rules.specs.Progression.{Step, act, mth}
use Rattle.rules.specs.Operators.{Operator, positions}
use Rattle.rules.specs.declared.Kind.{Kind}
use Rattle.rules.specs.declared.Kind.TheVariants.{Action, Method}
use Rattle.rules.specs.declared.Operator.{Operator as OperatorInCode}
use Rattle.rules.specs.Problems.{variable_count, variable_of, oper_of, problem_of}
use Rattle.version3.specs.Spelling.{preamble, spell_variable, middle, spell_oper}

abbrev pub step_at : Table → ℕ → Step
step_at t i = cond (ltb i (action_count t)) (act i) (mth (i - action_count t))

-- What the code says of an operator.
abbrev pub step_of : Kind → ℕ → Step
step_of Action k = act k
step_of Method k = mth k

abbrev pub operator_of : OperatorInCode → Operator
operator_of o = record { what = step_of o.kind o.number; at = o.position }

-- The sections of a variable and of an operator.
abbrev pub variable_text : ℕ → Table → ℕ → List ℕ
variable_text b t v = spell_variable (variable_of b t v)

abbrev pub operator_text : ℕ → Table → Operator → List ℕ
operator_text f t o = spell_oper (oper_of f t o)

-- The text of all operators that begin with step i, positions rising.
unfoldable pub step_text : ℕ → ℕ → Table → ℕ → List ℕ
step_text b f t i = upto (λ p. operator_text f t (record { what = step_at t i; at = suc p })) (positions b f t (step_at t i))

-- All text before the first operator's.
unfoldable pub front_text : ℕ → ℕ → Table → List ℕ
front_text b f t = preamble (variable_count b t) ++ upto (variable_text b t) (variable_count b t) ++ middle (problem_of b f t)
