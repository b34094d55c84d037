-- What a call ends with, in document 01's terms: a result, or a refusal's number with the values returned beside it.
-- A call answers a `Result`, whose cases `answer_of` takes to this type, and the call's `ensures` is stated through it.
use Rattle.std.specs.Prelude.{ℕ, Bool, true, false, List, Result, Ok, Err, ⊤}
use Rattle.refusal.specs.declared.Cause.{Cause}
use Rattle.refusal.specs.Table.{number_of, values_of}

pub data Answer (A : Type 0) : Type 0 where
  answered : A → Answer A
  refused : ℕ → List ℕ → Answer A

-- a refusal by its cause
abbrev pub refused_for : {A : Type 0} → Cause → Answer A
refused_for cause = refused (number_of cause) (values_of cause)

-- a call's answer
abbrev pub answer_of : {A : Type 0} → Result A Cause → Answer A
answer_of (Ok a) = answered a
answer_of (Err cause) = refused_for cause

-- an outcome beside a result, which counts only where the call is done
abbrev pub outcome_of : {A : Type 0} → Result ⊤ Cause → A → Answer A
outcome_of (Ok done) a = answered a
outcome_of (Err cause) a = refused_for cause

-- refused with this number and these values where the test holds, and else what follows
abbrev pub refuse_if : {A : Type 0} → Bool → ℕ → List ℕ → Answer A → Answer A
refuse_if true number values next = refused number values
refuse_if false number values next = next

-- goes on with the result, or passes the refusal on
abbrev pub and_then : {A B : Type 0} → Answer A → (A → Answer B) → Answer B
and_then (answered a) next = next a
and_then (refused number values) next = refused number values

-- the outcome alone: done, or a refusal's number and values
abbrev pub verdict : {A : Type 0} → Answer A → Answer Bool
verdict x = and_then x (λ a. answered true)
