-- The log's lines, as octets: 'The log program'. Assumes nothing: these are definitions.
-- names                          the statuses' names, from 0 on
-- decimal                        a number's digits
-- heading, cut_line, site_line     the lines that are the same in each run
-- line_of                         a frame's line
-- Put                            octets put into a buffer at a place
use Rattle.std.specs.Prelude.{◌≡◌, List, [], ◌∷◌, ◌++◌, ℕ, zero, suc, ◌+◌, ◌/◌, ◌%◌, ◌<◌, ◌≤◌, ltb, length, get_or}
use Prim.Native.Char.{code}
use Prim.Native.String.{String}
use Prim.Native.String.{[] as none, ◌∷◌ as ◌then◌}
use Rattle.std.proofs.lemmas.List.Edits.{sets}
use Rattle.meaning.specs.Octets.{pick}

-- ---- the texts
-- a text's octets
abbrev pub ascii : String → List ℕ
ascii none = []
ascii (c then s) = code c ∷ ascii s

abbrev pub names : List String
names =
    "SUCCESS"
    ∷ "SITE"
    ∷ "ROOM"
    ∷ "LENGTH"
    ∷ "FCS"
    ∷ "MALFORMED"
    ∷ "FILTERED"
    ∷ "UNSUPPORTED_LEGACY"
    ∷ "UNSUPPORTED_SECURITY"
    ∷ "UNAVAILABLE_SECURITY_LEVEL"
    ∷ "IMPROPER_SECURITY_LEVEL"
    ∷ "UNAVAILABLE_KEY"
    ∷ "IMPROPER_KEY_TYPE"
    ∷ "UNAVAILABLE_DEVICE"
    ∷ "COUNTER_ERROR"
    ∷ "SECURITY_ERROR"
    ∷ "FRAME_TOO_LONG"
    ∷ "INVALID_PARAMETER"
    ∷ []

-- how many there are
abbrev pub statuses : ℕ
statuses = 18

-- the name of a status
unfoldable pub name_of : ℕ → List ℕ
name_of k = ascii (get_or names k "")

-- by at most k digits
unfoldable pub decimal_by : ℕ → ℕ → List ℕ
decimal_by zero n = []
decimal_by (suc k) n = pick (ltb n 10) ((48 + n) ∷ []) (decimal_by k (n / 10) ++ ((48 + n % 10) ∷ []))

-- a number has fewer digits than its successor says
unfoldable pub decimal : ℕ → List ℕ
decimal n = decimal_by (suc n) n

-- ---- the lines
abbrev pub heading : List ℕ
heading = ascii "frame status octets\n"

abbrev pub cut_line : List ℕ
cut_line = ascii "CUT\n"

abbrev pub site_line : List ℕ
site_line = ascii "SITE\n"

-- number from 1, status by name, private octets
unfoldable pub line_of : ℕ → ℕ → ℕ → List ℕ
line_of number status octets = decimal number ++ (ascii " " ++ (name_of status ++ (ascii " " ++ (decimal octets ++ ascii "\n"))))

-- ---- what the functions promise
-- the octets vs stand in d from a place on, which made it e, and r is the place after them
-- of buffers and places alone: the laws of what is printed need no writer (a writer's `Over` gives it, proofs/Puts.antt)
pub record Put (d : List ℕ) (at : ℕ) (vs e : List ℕ) (r : ℕ) : Type 0 where
  pub room : at + length vs ≤ length d
  pub made : e ≡ sets d at vs
  pub next : r ≡ at + length vs

-- a status's name
pub record Named (k : ℕ) (l : List ℕ) : Type 0 where
  pub text : l ≡ name_of k
  pub short : length l < 32
