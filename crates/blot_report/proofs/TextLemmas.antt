-- Words put one behind the other, and lines.
use Rattle.std.proofs.Common.{◌≡◌, ℕ, List, ◌++◌, Result, Ok, Err, OnOk, append_assoc}

-- what an Ok says, said in another way
pub on_ok : {T E P Q : Type 0} (r : Result T E) → (P → Q) → OnOk r P → OnOk r Q
on_ok (Ok x) f p = f p
on_ok (Err e) f p = p

pub six_behind : (text a b c d e last : List ℕ) → ((((((text ++ a) ++ b) ++ c) ++ d) ++ e) ++ last) ≡ text ++ (a ++ b ++ c ++ d ++ e ++ last)
six_behind text a b c d e last = simp append_assoc

pub four_behind : (text a b c last : List ℕ) → ((((text ++ a) ++ b) ++ c) ++ last) ≡ text ++ (a ++ b ++ c ++ last)
four_behind text a b c last = simp append_assoc
