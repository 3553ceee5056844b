-- The worked row "decimals", computed over the definitions.
use Rattle.std.proofs.Common.{◌≡◌, pos, negsuc, Ok, Err, [], refl, codes}
use Rattle.std.specs.Fmt.{digits}
use Rattle.blot_decimal.specs.declared.fault.DecimalFault.TheVariants.{Format, TooFine, TooLarge}
use Rattle.blot_decimal.specs.Text.{are_parts}
use Rattle.blot_decimal.specs.Meaning.{size_of, qty_of, price_of}
use Rattle.blot_decimal.specs.Printed.{fraction_digits, printed}

zeros_on_both_ends : qty_of (codes "00023.230") ≡ Ok 23230000
unfolding qty_of size_of are_parts
zeros_on_both_ends = refl

many_zeros : qty_of (codes "1.0000000000") ≡ Ok 1000000
unfolding qty_of size_of are_parts
many_zeros = refl

seventh_decimal : qty_of (codes "1.0000001") ≡ Err TooFine
unfolding qty_of size_of are_parts
seventh_decimal = refl

largest_qty : qty_of (codes "9999999999.999999") ≡ Ok 9999999999999999
unfolding qty_of size_of are_parts
largest_qty = refl

past_largest_qty : qty_of (codes "10000000000") ≡ Err TooLarge
unfolding qty_of size_of are_parts
past_largest_qty = refl

below_zero : qty_of (codes "-1") ≡ Err TooLarge
unfolding qty_of size_of are_parts
below_zero = refl

too_fine_first : qty_of (codes "10000000000.0000001") ≡ Err TooFine
unfolding qty_of size_of are_parts
too_fine_first = refl

minus_zero : qty_of (codes "-0") ≡ Ok 0
unfolding qty_of size_of are_parts
minus_zero = refl

empty_text : qty_of [] ≡ Err Format
unfolding qty_of size_of are_parts
empty_text = refl

point_alone : qty_of (codes ".") ≡ Err Format
unfolding qty_of size_of are_parts
point_alone = refl

plus_sign : qty_of (codes "+1") ≡ Err Format
unfolding qty_of size_of are_parts
plus_sign = refl

exponent : qty_of (codes "1e3") ≡ Err Format
unfolding qty_of size_of are_parts
exponent = refl

digits_and_a_point : qty_of (codes "1.") ≡ Ok 1000000
unfolding qty_of size_of are_parts
digits_and_a_point = refl

a_point_and_digits : qty_of (codes ".5") ≡ Ok 500000
unfolding qty_of size_of are_parts
a_point_and_digits = refl

least_step_below_zero : price_of (codes "-0.00000001") ≡ Ok (negsuc 0)
unfolding price_of size_of are_parts
least_step_below_zero = refl

largest_price : price_of (codes "99999999.99999999") ≡ Ok (pos 9999999999999999)
unfolding price_of size_of are_parts
largest_price = refl

past_largest_price : price_of (codes "100000000") ≡ Err TooLarge
unfolding price_of size_of are_parts
past_largest_price = refl

printed_fraction : printed 6 (pos 23230000) ≡ codes "23.23"
unfolding printed fraction_digits digits
printed_fraction = refl

printed_whole : printed 14 (pos 137000000000000000) ≡ codes "1370"
unfolding printed fraction_digits digits
printed_whole = refl

printed_below_one : printed 8 (negsuc 0) ≡ codes "-0.00000001"
unfolding printed fraction_digits digits
printed_below_one = refl
