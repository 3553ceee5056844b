-- A whole number of 128 bits as two halves of 64.
use Rattle.std.specs.Prelude.{◌≡◌, ℕ, ◌+◌, ◌*◌, ◌/◌, ◌%◌, ◌^◌, ◌<◌, ℤ}
use Rattle.std.proofs.Common.{ap, ◌∙◌}
use Rattle.std.specs.Int.{cast_signed, cast_unsigned, w128}
use Rattle.std.proofs.lemmas.Int.{of_z-to_z}
use Rattle.std.proofs.lemmas.Nat.{div-mul-add, mod-mul-add, mul-add-lt}

-- the number whose bits are these halves
abbrev pub of_halves : ℕ → ℕ → ℤ
of_halves high low = cast_signed w128 (high * 2 ^ 64 + low)

-- the high half of the bits of a number
abbrev pub high_half : ℤ → ℕ
high_half units = cast_unsigned w128 units / 2 ^ 64

-- the low half of the bits of a number
abbrev pub low_half : ℤ → ℕ
low_half units = cast_unsigned w128 units % 2 ^ 64

-- what two halves keep: each is of 64 bits
pub record AreHalves (high low : ℕ) : Type 0 where
  pub high_fits : high < 2 ^ 64
  pub low_fits : low < 2 ^ 64

-- the bits of the number of two halves
pub bits_of_halves : (high low : ℕ) → AreHalves high low → cast_unsigned w128 (of_halves high low) ≡ high * 2 ^ 64 + low
bits_of_halves high low are = of_z-to_z w128 (high * 2 ^ 64 + low) (mul-add-lt high (2 ^ 64) low (2 ^ 64) are.high_fits are.low_fits)

-- the halves of the number of two halves
pub high_of_halves : (high low : ℕ) → AreHalves high low → high_half (of_halves high low) ≡ high
high_of_halves high low are = ap (λ bits. bits / 2 ^ 64) (bits_of_halves high low are) ∙ div-mul-add high (2 ^ 64) low are.low_fits

pub low_of_halves : (high low : ℕ) → AreHalves high low → low_half (of_halves high low) ≡ low
low_of_halves high low are = ap (λ bits. bits % 2 ^ 64) (bits_of_halves high low are) ∙ mod-mul-add high (2 ^ 64) low are.low_fits
