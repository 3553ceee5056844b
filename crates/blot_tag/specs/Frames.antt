-- What a valid frame is (FIX 4.4 volume 1, "Message format"; volume 2, "Standard message header" and "trailer").
use Rattle.std.specs.Prelude.{◌≡◌, ℕ, ◌+◌, ◌/◌, ◌%◌, ◌<◌, ◌≤◌, true, List, [], ◌∷◌, ◌++◌, length, sum, codes}
use Rattle.blot_tag.specs.Bytes.{soh, is_number, number_of}
use Rattle.blot_tag.specs.declared.{look.TheConstants.SIZE_MIN, look.TheConstants.SIZE_MAX, look.TheConstants.DIGITS_MAX, bytes.TheConstants.CHECK_SUM_LENGTH}

-- the bytes that begin a frame: `8=FIX.4.4`, SOH and `9=`
abbrev pub head : List ℕ
head = codes "8=FIX.4.4" ++ soh ∷ codes "9="

-- three decimal digits
abbrev pub three_digits : ℕ → List ℕ
three_digits n = (48 + n / 100) ∷ (48 + n / 10 % 10) ∷ (48 + n % 10) ∷ []

-- what stands after `10=`: the sum of these bytes modulo 256, and SOH
abbrev pub check_sum : List ℕ → List ℕ
check_sum bytes = three_digits (sum bytes % 256) ++ soh ∷ []

-- the field CheckSum after these bytes
abbrev pub trailer_of : List ℕ → List ℕ
trailer_of bytes = codes "10=" ++ check_sum bytes

-- the first two fields, with BodyLength written by these digits
abbrev pub first_fields : List ℕ → List ℕ
first_fields digits = head ++ digits ++ soh ∷ []

-- what stands before CheckSum
abbrev pub front_of : List ℕ → List ℕ → List ℕ
front_of digits body = first_fields digits ++ body

-- digits that write the length of a body; leading zeros are accepted (the limits are this project's rule)
pub record IsBodyLength (digits : List ℕ) (size : ℕ) : Type 0 where
  pub number : is_number digits ≡ true
  pub short : length digits ≤ DIGITS_MAX
  pub value : number_of digits ≡ size
  pub low : SIZE_MIN ≤ size
  pub high : size ≤ SIZE_MAX

-- a body begins with `35=` and ends with SOH
pub record IsBody (body : List ℕ) : Type 0 where
  pub inner : List ℕ
  pub text : body ≡ codes "35=" ++ inner ++ soh ∷ []

-- the text is one valid frame
pub record IsFrame (text : List ℕ) : Type 0 where
  pub digits : List ℕ
  pub body : List ℕ
  pub body_length : IsBodyLength digits (length body)
  pub body_form : IsBody body
  pub whole : text ≡ front_of digits body ++ trailer_of (front_of digits body)

-- how long a frame can be: its first two fields, its body and CheckSum
abbrev pub longest_frame : ℕ
longest_frame = length head + DIGITS_MAX + 1 + SIZE_MAX + CHECK_SUM_LENGTH

-- the text is a proper prefix of some valid frame: with more bytes it is one
pub record IsFramePrefix (text : List ℕ) : Type 0 where
  pub more : List ℕ
  pub proper : 0 < length more
  pub frame : IsFrame (text ++ more)

-- a valid frame stands at the beginning of the text
pub record BeginsWithFrame (text : List ℕ) : Type 0 where
  pub frame : List ℕ
  pub more : List ℕ
  pub valid : IsFrame frame
  pub whole : text ≡ frame ++ more

-- no valid frame begins here, whatever may come after the text
pub record IsGarbled (text : List ℕ) : Type 0 where
  pub no_frame : ¬ BeginsWithFrame text
  pub no_prefix : ¬ IsFramePrefix text
