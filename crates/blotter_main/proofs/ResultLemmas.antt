-- What is told of a desk that a capture led to.
use Rattle.std.proofs.Common.{◌≡◌, Option, Some, None, subst, IfSome}

-- what holds of a value holds of what it is made of
pub led-to : {A B : Type 0} (from : Option A) (value : B) (made : A → B) (P : B → Type 0) → IfSome from (λ it. value ≡ made it) → P value → IfSome from (λ it. P (made it))
led-to None value made P is holds = tt
led-to (Some it) value made P is holds = subst P is holds
