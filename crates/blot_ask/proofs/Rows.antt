-- The definitions, computed on worked lines.
use Rattle.std.proofs.Common.{◌≡◌, ◌∷◌, [], true, false, codes, refl}
use Rattle.blot_ask.specs.Answers.{ends_list, is_answer, is_complete, is_list}
use Rattle.blot_ask.specs.Typed.{mark_of, typed}

words_are_divided_by_spaces : typed (codes "order BRKA O1") ≡ codes "order\tBRKA\tO1"
unfolding typed mark_of
words_are_divided_by_spaces = refl

a_quoted_space_belongs_to_a_word : typed (codes "position \"HOUSE A\" XYZ") ≡ codes "position\tHOUSE A\tXYZ"
unfolding typed mark_of
a_quoted_space_belongs_to_a_word = refl

a_line_with_a_tab_stays : typed (codes "order\tBRK A\t \"O1\"") ≡ codes "order\tBRK A\t \"O1\""
unfolding typed mark_of
a_line_with_a_tab_stays = refl

spaces_divide_nothing_at_the_ends : typed (codes "  mine  ") ≡ codes "mine"
unfolding typed mark_of
spaces_divide_nothing_at_the_ends = refl

a_run_of_spaces_is_one_gap : typed (codes "undo   1") ≡ codes "undo\t1"
unfolding typed mark_of
a_run_of_spaces_is_one_gap = refl

quotes_within_a_word_go : typed (codes "a\"\"b") ≡ codes "ab"
unfolding typed mark_of
quotes_within_a_word_go = refl

a_pair_of_quotes_is_an_empty_word : typed (codes "\"\" x") ≡ codes "\tx"
unfolding typed mark_of
a_pair_of_quotes_is_an_empty_word = refl

an_empty_word_at_the_end : typed (codes "x \"\"") ≡ codes "x\t"
unfolding typed mark_of
an_empty_word_at_the_end = refl

an_open_quote_goes_to_the_end : typed (codes "a \"b c ") ≡ codes "a\tb c "
unfolding typed mark_of
an_open_quote_goes_to_the_end = refl

a_line_of_spaces_has_no_words : typed (codes "   ") ≡ []
unfolding typed mark_of
a_line_of_spaces_has_no_words = refl

an_order_is_one_line : is_answer (codes "order\tBRKA\tO1") (codes "none" ∷ []) ≡ true
unfolding is_list ends_list
an_order_is_one_line = refl

a_list_goes_to_its_end : is_answer (codes "orders") (codes "order\tBRKA\tO1\tXYZ\tB\t100\t200\t1050" ∷ codes "end\t1" ∷ []) ≡ true
unfolding is_list ends_list
a_list_goes_to_its_end = refl

an_empty_list_is_its_end : is_answer (codes "orders\tBRKA") (codes "end\t0" ∷ []) ≡ true
unfolding is_list ends_list
an_empty_list_is_its_end = refl

a_list_goes_on_before_its_end : is_complete (codes "report\t20240105") true (codes "report\t20240105") ≡ false
unfolding is_list ends_list
a_list_goes_on_before_its_end = refl

nothing_to_list : is_answer (codes "execution\tBRKA\tE9") (codes "none" ∷ []) ≡ true
unfolding is_list ends_list
nothing_to_list = refl

a_list_that_is_wrong : is_answer (codes "steps\tx") (codes "bad\t3\t1" ∷ []) ≡ true
unfolding is_list ends_list
a_list_that_is_wrong = refl
