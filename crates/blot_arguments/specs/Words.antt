-- What the words of the command line ask for.
use Rattle.std.specs.Prelude.{◌≡◌, ◌≢◌, ℕ, ◌+◌, ◌*◌, ◌<◌, ◌≤◌, ℤ, min, Bool, true, false, List, [], ◌∷◌, codes, length, Option, Some, None, IfSome, IsSomeAnd, IsTrue, is_some, option_map, ⊤}
use Rattle.std.specs.List.{IsDistinct, list_all, list_any}
use Rattle.std.specs.Str.Parse.{IsNumeral, digits_value, without_leading_plus}
use Rattle.clap.specs.Matches.{first_value, found_of, matched_of, one_text, raw_values}
use Rattle.clap.specs.declared.parser.matches.ArgMatches.{ArgMatches}
use Rattle.blot_time.specs.Day.{IsDayText}
use Rattle.blot_types.specs.Keys.{same_text}
use Rattle.blot_types.specs.Text.{is_text}
use Rattle.blot_arguments.specs.declared.{command_line.TheConstants.LANES_MAX, command_line.TheConstants.PORT_MAX, command_line.TheConstants.ROUNDS_MAX, command_line.TheConstants.SESSIONS_MAX, refusal.Refusal.Refusal, refusal.Refusal.TheVariants.NoMemory, words.DeskSource.DeskSource, words.Words.Words}
use Rattle.blot_arguments.specs.declared.words.DeskSource.TheVariants.{Capture, Journal}
use Rattle.blot_arguments.specs.declared.words.Words.TheVariants.{Replay, Desk, Audit, Open, Serve, Ask}

-- the peers of a replay: one or more texts, and no two the same
pub record IsPeerList (peers : List (List ℕ)) : Type 0 where
  pub some : 0 < length peers
  pub texts : list_all is_text peers ≡ true
  pub distinct : IsDistinct same_text peers

-- one's own CompID is none of these peers
abbrev pub IsApart : List ℕ → List (List ℕ) → Type 0
IsApart own peers = list_any (same_text own) peers ≡ false

-- the words that clap found, by the option that they come after: one's own CompID, the day, the file with the capture, the file with the
-- journal, the socket that operators come by, and all that name a peer; of a client, its socket and its operator's name
abbrev pub own_word : ArgMatches → Option (List ℕ)
own_word matches = first_value (found_of matches) (codes "own")

abbrev pub day_word : ArgMatches → Option (List ℕ)
day_word matches = first_value (found_of matches) (codes "day")

abbrev pub capture_word : ArgMatches → Option (List ℕ)
capture_word matches = first_value (found_of matches) (codes "capture")

abbrev pub journal_word : ArgMatches → Option (List ℕ)
journal_word matches = first_value (found_of matches) (codes "journal")

abbrev pub operators_word : ArgMatches → Option (List ℕ)
operators_word matches = first_value (found_of matches) (codes "operators")

abbrev pub path_word : ArgMatches → Option (List ℕ)
path_word matches = first_value (found_of matches) (codes "path")

abbrev pub name_word : ArgMatches → Option (List ℕ)
name_word matches = first_value (found_of matches) (codes "name")

abbrev pub peer_words : ArgMatches → Option (List (List ℕ))
peer_words matches = option_map raw_values (matched_of (found_of matches) (codes "peer"))

-- the text of an option that is a number, and those of all such options: the port, and how many connections and rounds
abbrev pub count_word : ArgMatches → List ℕ → Option (List ℕ)
count_word matches id = one_text (found_of matches) id

abbrev pub count_words : ArgMatches → List (Option (List ℕ))
count_words matches = count_word matches (codes "port") ∷ count_word matches (codes "sessions") ∷ count_word matches (codes "rounds") ∷ []

-- the word for the connections of a round: without it a day is open
abbrev pub sessions_word : ArgMatches → Option (List ℕ)
sessions_word matches = first_value (found_of matches) (codes "sessions")

-- one's own CompID is a text, and the day a day
abbrev pub IsOwnWord : ArgMatches → Type 0
IsOwnWord matches = IsSomeAnd (own_word matches) (λ text. IsTrue (is_text text))

abbrev pub IsDayWord : ArgMatches → Type 0
IsDayWord matches = IsSomeAnd (day_word matches) IsDayText

-- the words of a replay: one's own CompID is a text, the day a day, and the peers are as above
pub record IsReplay (matches : ArgMatches) : Type 0 where
  pub own_text : IsOwnWord matches
  pub day_text : IsDayWord matches
  pub peer_list : IsSomeAnd (peer_words matches) IsPeerList

-- where these words name the file of a journal, one's own CompID is none of the peers
abbrev pub AreApart : ArgMatches → Type 0
AreApart matches = IfSome (journal_word matches) (λ _. IfSome (own_word matches) (λ own. IfSome (peer_words matches) (IsApart own)))

-- a desk's file: of a capture, or of a journal
abbrev pub capture_in : DeskSource → Option (List ℕ)
capture_in (Capture file) = Some file.bytes.items
capture_in (Journal file) = None

abbrev pub journal_in : DeskSource → Option (List ℕ)
journal_in (Capture file) = None
journal_in (Journal file) = Some file.bytes.items

-- the words of a desk: one's own CompID is a text, the file of either a capture or a journal is named, and the peers are as above
pub record IsDesk (matches : ArgMatches) : Type 0 where
  pub own_text : IsOwnWord matches
  pub one_file : is_some (capture_word matches) ≢ is_some (journal_word matches)
  pub peer_list : IsSomeAnd (peer_words matches) IsPeerList
  pub apart : AreApart matches

-- the words of an audit: one's own CompID is a text, and the peers are as above
pub record IsAudit (matches : ArgMatches) : Type 0 where
  pub own_text : IsOwnWord matches
  pub peer_list : IsSomeAnd (peer_words matches) IsPeerList
  pub apart : AreApart matches

-- the number that the digits of a word write, a plus before them passed over
abbrev pub count_of : List ℕ → ℕ
count_of word = digits_value 10 (without_leading_plus word)

-- a word is digits, with a plus before them or none, of a number from 1 to the most
pub record IsCount (most : ℕ) (word : List ℕ) : Type 0 where
  pub digits : IsNumeral 10 (without_leading_plus word)
  pub some : 1 ≤ count_of word
  pub few : count_of word ≤ most

-- the words of a server: as of a replay, and the port and the numbers of connections and rounds are counts; a day of rounds keeps no journal,
-- and no operator comes to it by a socket
pub record IsServe (matches : ArgMatches) : Type 0 where
  pub as_replay : IsReplay matches
  pub no_journal : journal_word matches ≡ None
  pub no_operators : operators_word matches ≡ None
  pub port_count : IsSomeAnd (count_word matches (codes "port")) (IsCount PORT_MAX)
  pub sessions_count : IsSomeAnd (count_word matches (codes "sessions")) (IsCount SESSIONS_MAX)
  pub rounds_count : IsSomeAnd (count_word matches (codes "rounds")) (IsCount ROUNDS_MAX)

-- a word that may be left out is a count
abbrev pub IsCountOrNone : ℕ → Option (List ℕ) → Type 0
IsCountOrNone most None = ⊤
IsCountOrNone most (Some word) = IsCount most word

-- the words of an open day: as of a replay, the port is a count, and so is the number of lanes where there is one
pub record IsOpen (matches : ArgMatches) : Type 0 where
  pub as_replay : IsReplay matches
  pub port_count : IsSomeAnd (count_word matches (codes "port")) (IsCount PORT_MAX)
  pub lanes_count : IsCountOrNone LANES_MAX (count_word matches (codes "lanes"))
  pub apart : AreApart matches

-- the words of a client: a socket, and an operator's name, where there is one, is a text
pub record IsAsk (matches : ArgMatches) : Type 0 where
  pub path : IsTrue (is_some (path_word matches))
  pub name_text : IfSome (name_word matches) (λ name. IsTrue (is_text name))

-- how many lanes so many peers have by default: twice as many and two more, but no more than there may be
abbrev pub default_lanes : ℕ → ℕ
default_lanes peers = min (2 * peers + 2) LANES_MAX

-- how many lanes there are: as the word says, or without one by default
abbrev pub lanes_by : Option (List ℕ) → ℕ → ℕ
lanes_by None peers = default_lanes peers
lanes_by (Some word) peers = count_of word

-- what a refusal rules out, unless it is want of memory
abbrev pub RulesOut : Type 0 → Refusal → Type 0
RulesOut fact refusal = refusal ≢ NoMemory → fact → ⊥

-- one's own CompID, the day, the file with the capture, the file with the journal, the socket of the operators, and the peers that the words
-- name; those of a client name none of them
abbrev pub own_of : Words → List ℕ
own_of (Replay own day peers) = own
own_of (Desk own from peers) = own
own_of (Audit own journal peers) = own
own_of (Open own day port lanes journal operators peers) = own
own_of (Serve own day port sessions rounds peers) = own
own_of (Ask path name) = []

abbrev pub day_named : Words → Option ℤ
day_named (Replay own day peers) = Some day
day_named (Desk own from peers) = None
day_named (Audit own journal peers) = None
day_named (Open own day port lanes journal operators peers) = Some day
day_named (Serve own day port sessions rounds peers) = Some day
day_named (Ask path name) = None

abbrev pub capture_named : Words → Option (List ℕ)
capture_named (Replay own day peers) = None
capture_named (Desk own from peers) = capture_in from
capture_named (Audit own journal peers) = None
capture_named (Open own day port lanes journal operators peers) = None
capture_named (Serve own day port sessions rounds peers) = None
capture_named (Ask path name) = None

abbrev pub journal_named : Words → Option (List ℕ)
journal_named (Replay own day peers) = None
journal_named (Desk own from peers) = journal_in from
journal_named (Audit own journal peers) = option_map (λ file. file.bytes.items) journal
journal_named (Open own day port lanes journal operators peers) = option_map (λ file. file.bytes.items) journal
journal_named (Serve own day port sessions rounds peers) = None
journal_named (Ask path name) = None

abbrev pub operators_named : Words → Option (List ℕ)
operators_named (Open own day port lanes journal operators peers) = option_map (λ file. file.bytes.items) operators
operators_named words = None

abbrev pub peers_of : Words → List (List ℕ)
peers_of (Replay own day peers) = peers.items
peers_of (Desk own from peers) = peers.items
peers_of (Audit own journal peers) = peers.items
peers_of (Open own day port lanes journal operators peers) = peers.items
peers_of (Serve own day port sessions rounds peers) = peers.items
peers_of (Ask path name) = []

-- what the words name as peers are peers as above; a client has none
abbrev pub HasPeers : Words → Type 0
HasPeers (Ask path name) = ⊤
HasPeers words = IsPeerList (peers_of words)

-- the socket that a client connects to, and the name of its operator
abbrev pub path_named : Words → Option (List ℕ)
path_named (Ask path name) = Some path.bytes.items
path_named words = None

abbrev pub name_named : Words → Option (List ℕ)
name_named (Ask path name) = name
name_named words = None

-- the port, and how many connections and rounds, of a day of rounds
abbrev pub counts_named : Words → List (Option ℕ)
counts_named (Serve own day port sessions rounds peers) = Some port ∷ Some sessions ∷ Some rounds ∷ []
counts_named words = []

-- the port and the lanes of an open day
abbrev pub port_named : Words → Option ℕ
port_named (Open own day port lanes journal operators peers) = Some port
port_named words = None

abbrev pub lanes_named : Words → Option ℕ
lanes_named (Open own day port lanes journal operators peers) = Some lanes
lanes_named words = None

-- whether they ask for an open day
abbrev pub is_open : Words → Bool
is_open (Open own day port lanes journal operators peers) = true
is_open words = false

-- whether what the words ask for is written in one piece, at the end of the input
abbrev pub is_written_last : Words → Bool
is_written_last (Replay own day peers) = true
is_written_last (Audit own journal peers) = true
is_written_last words = false

-- whether they ask for an audit
abbrev pub is_audit : Words → Bool
is_audit (Audit own journal peers) = true
is_audit words = false

-- where they name the file of a journal, one's own CompID is none of the peers
abbrev pub AreApartIn : Words → Type 0
AreApartIn words = IfSome (journal_named words) (λ _. IsApart (own_of words) (peers_of words))
