-- Laws of answers, for callers that go through some one after the other.
use Prim.Native.Nat.{ℕ}
use native.Mathlib.Omega.{arith}
use mathlib.Core.Path.{◌≡◌, refl, sym, ap}
use mathlib.Core.Bool.{Bool, true, false}
use mathlib.Core.List.{List}
use Rattle.std.specs.declared.result.Result.{Result}
use Rattle.std.specs.declared.result.Result.TheVariants.{Ok, Err}
use Rattle.refusal.specs.declared.Cause.{Cause}
use Rattle.refusal.specs.Answer.{Answer, answered, refused, refuse_if, and_then, answer_of}

pub then_answered : {A : Type 0} (x : Answer A) → and_then x answered ≡ x
then_answered (answered a) = refl
then_answered (refused n v) = refl

pub then_assoc : {A B C : Type 0} (x : Answer A) (f : A → Answer B) (g : B → Answer C) → and_then (and_then x f) g ≡ and_then x (λ a. and_then (f a) g)
then_assoc (answered a) f g = refl
then_assoc (refused n v) f g = refl

pub then_same : {A B : Type 0} (x : Answer A) (f g : A → Answer B) → ((a : A) → f a ≡ g a) → and_then x f ≡ and_then x g
then_same (answered a) f g h = h a
then_same (refused n v) f g h = refl

-- no answer is both
pub never : {A B : Type 0} {a : A} {n : ℕ} {vs : List ℕ} → refused n vs ≡ answered a → B
never e = absurd (let z : ◌≡◌ {A = ℕ} 0 1 = cc e in omega arith)

pub not_refused : {A B : Type 0} {b : B} (cause : Cause) → ◌≡◌ {A = Result B Cause} (Ok b) (Err cause) → A
not_refused cause e = never (ap answer_of (sym e))

-- a test that does not refuse fails, and what follows answers
pub passed : {A : Type 0} (b : Bool) (n : ℕ) (vs : List ℕ) (next : Answer A) (a : A) → refuse_if b n vs next ≡ answered a → (b ≡ false) × (next ≡ answered a)
passed true n vs next a e = never e
passed false n vs next a e = (refl, e)

-- what is answered is one thing
pub same_answer : {A : Type 0} {a b : A} → answered a ≡ answered b → a ≡ b
same_answer {A} {a} e = ap given e
  where
    given : Answer A → A
    given (answered x) = x
    given (refused n vs) = a
