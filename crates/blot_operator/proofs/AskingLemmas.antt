-- The line that withdraws an entry asks for that withdrawal.
use Rattle.std.proofs.Common.{◌≡◌, ℕ, ◌+◌, ◌-◌, ◌*◌, ◌^◌, ◌<◌, true, false, leb, List, [], ◌∷◌, length, Ok, Some, None, refl, ap, ◌∙◌, arith, lit<, rules, fold, codes, decimal, le-leb, leb-true, ne_eqb}
use Rattle.std.specs.Char.{is_ascii_digit}
use Rattle.std.specs.List.{list_all}
use Rattle.std.proofs.lemmas.Bool.{and_from, and_parts, cond-true}
use Rattle.std.proofs.lemmas.Fmt.{decimal_nonempty, digits_decimal, digits_value-decimal, length-decimal-le}
use Rattle.std.proofs.lemmas.List.Splits.{slice_split_none}
use Rattle.std.proofs.lemmas.List.Sums.{AllPass-from_list_all}
use Rattle.std.proofs.lemmas.Str.Parse.{IsNumeralModel, numerals_by_fold}
use Rattle.blot_types.specs.declared.command.Command.TheVariants.{Withdraw}
use Rattle.blot_desk.specs.declared.event.Event.TheVariants.{Submit}
use Rattle.blot_console.specs.declared.{ask.Ask.TheVariants.Step, parsing.TheConstants.LINE_MAX}
use Rattle.blot_console.specs.Forms.{number_form}
use Rattle.blot_console.specs.Lines.{withdraw_line}
use Rattle.blot_console.specs.Parsing.{ask_of, kind_of, parsed, ask_or_fault, words_line}
use Rattle.blot_console.specs.Rows.{counted, value_at}
use Rattle.blot_console.specs.Words.{is_tab, words_of}
use Rattle.blot_operator.specs.Asking.{withdrawal_text}

-- a number with one more digit after it, and the number that digits write
abbrev with_digit : ℕ → ℕ → ℕ
with_digit number byte = number * 10 + (byte - 48)

abbrev number_of : List ℕ → ℕ
number_of digits = fold with_digit 0 digits

numeral : IsNumeralModel (λ digits. list_all is_ascii_digit digits ≡ true) number_of
numeral = numerals_by_fold _ (search rules) (fold with_digit) (search rules)

digit-tab : (byte : ℕ) → is_ascii_digit byte ≡ true → is_tab byte ≡ false
digit-tab byte is =
    let low = leb-true 48 byte (and_parts (leb 48 byte) (leb byte 57) is).0 in
    ne_eqb byte 9 (λ same. omega (arith, same))

-- its two words
two_words : (number : ℕ) → number < 2 ^ 64 → words_of (withdrawal_text number) ≡ codes "withdraw" ∷ decimal number ∷ []
two_words number small =
    let digits = AllPass-from_list_all is_ascii_digit (decimal number) (digits_decimal numeral number small) in
    ap (λ words. codes "withdraw" ∷ words) (slice_split_none is_tab (decimal number) (λ k d inside. digit-tab _ (digits k d inside)))

number_form-decimal : (number : ℕ) → number < 10 ^ 9 → number_form (decimal number) ≡ Some number
unfolding number_form
number_form-decimal number low =
    let small : number < 2 ^ 64 = omega arith in
    let some = le-leb 1 _ (omega (arith, decimal_nonempty number small)) in
    let few = le-leb _ 9 (length-decimal-le 9 number (lit< tt) low small) in
    cond-true _ (Some (number_of (decimal number))) None (and_from _ _ (and_from _ _ some (digits_decimal numeral number small)) few)
    ∙ ap Some (digits_value-decimal numeral number small)

words_ask : (number : ℕ) → number < 10 ^ 9 → words_line (codes "withdraw" ∷ decimal number ∷ []) ≡ Ok (Step (Submit (Withdraw number)))
unfolding words_line kind_of withdraw_line counted value_at
words_ask number low = rw (number_form-decimal number low) refl

pub withdrawal_asks : (number : ℕ) → number < 10 ^ 9 → parsed (withdrawal_text number) ≡ Ok (Step (Submit (Withdraw number)))
unfolding parsed ask_of
withdrawal_asks number low =
    let small : number < 2 ^ 64 = omega arith in
    let short = le-leb (length (withdrawal_text number)) LINE_MAX (omega (arith, length-decimal-le 9 number (lit< tt) low small)) in
    ap ask_or_fault (cond-true _ (words_line (words_of (withdrawal_text number))) _ short ∙ ap words_line (two_words number small) ∙ words_ask number low)
