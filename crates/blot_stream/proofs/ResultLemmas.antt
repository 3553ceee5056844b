-- What holds of a result.
use Rattle.std.proofs.Common.{◌≡◌, ap, Result, Option, Ok, Err, Some, None, IsOk, OnOk, OnErr, IfOk, IfSome}

pub if-both-ok : {T E P : Type 0} (Q R : T → Type 0) (result : Result T E) → OnOk result P → IfOk result Q → ((x : T) → P → Q x → R x) → IfOk result R
if-both-ok Q R (Ok x) p q more = more x p q
if-both-ok Q R (Err e) p q more = tt

pub ok-says : {T E P : Type 0} (result : Result T E) → IsOk result → OnOk result P → P
ok-says (Ok x) is p = p
ok-says (Err e) is p = absurd cc

pub on-err : {T E P Q : Type 0} (result : Result T E) → OnErr result P → (P → Q) → OnErr result Q
on-err (Ok x) p more = tt
on-err (Err e) p more = more p

pub if-some : {A : Type 0} (P Q : A → Type 0) (known : Option A) → IfSome known P → ((x : A) → P x → Q x) → IfSome known Q
if-some P Q None p more = tt
if-some P Q (Some x) p more = more x p

fault_or : {T E : Type 0} → E → Result T E → E
fault_or other (Ok x) = other
fault_or other (Err e) = e

pub same-fault : {T E : Type 0} (a b : E) → ◌≡◌ {A = Result T E} (Err a) (Err b) → a ≡ b
unfolding fault_or
same-fault a b is = ap (fault_or a) is
