-- What a text is: an identifier, an account or a symbol of a message.
use Rattle.std.specs.Prelude.{◌≡◌, ℕ, ◌-◌, Bool, true, ◌&&◌, List, ◌++◌, length, take, replicate, nat_le}
use Rattle.std.specs.List.{list_all}

-- a printable byte of ASCII: space to tilde
abbrev pub printable : ℕ → Bool
printable byte = nat_le 0x20 byte && nat_le byte 0x7E

-- a text: 1 to 64 printable bytes (this project's rule; FIX 4.4 sets no limit)
abbrev pub is_text : List ℕ → Bool
is_text bytes = nat_le 1 (length bytes) && nat_le (length bytes) 64 && list_all printable bytes

-- a text filled up with zero bytes to the 64 of its buffer
abbrev pub with_zeros : List ℕ → List ℕ
with_zeros text = text ++ replicate (64 - length text) 0

-- what a text in its buffer keeps: it is a text, of this length, and zero bytes fill the rest
pub record HoldsText (len : ℕ) (buffer : List ℕ) : Type 0 where
  pub is_a_text : is_text (take len buffer) ≡ true
  pub is_filled_up : with_zeros (take len buffer) ≡ buffer
  pub is_long_enough : length (take len buffer) ≡ len
