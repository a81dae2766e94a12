-- What the log's functions promise of the frames at hand and of the text. Assumes nothing: these are definitions.
-- kept        the site that frames are answered at
-- SameSite    it is kept behind the same reference: who lent it learns what became of it
-- whole_len   how many octets the frame at hand has, if it is whole
-- next_len    the same of the frame that is answered next
-- Answered    a frame's answer
-- Stepped     and its line
-- Batched     the lines of all frames at hand
-- Ended       the line of what is left at the end of the input
use Rattle.std.specs.Prelude.{◌≡◌, List, [], ◌∷◌, ◌++◌, ℕ, ◌≤◌, ◌<◌, leb, ltb, length, take, drop, Option, Some, None, Result}
use Rattle.std.specs.Bool.{then_some}
use Rattle.std.specs.Result.{result_unwrap_or}
use Rattle.meaning.specs.Octets.{pick}
use Rattle.meaning.specs.Site.{site_rule}
use Rattle.meaning.specs.Status.{status}
use Rattle.meaning.specs.Loading.{empty_site}
use Rattle.meaning.specs.Receive.{received}
use Rattle.meaning.specs.declared.Refusal.{Refusal}
use Rattle.site.specs.declared.fields.Site.{Site}
use Rattle.lines.specs.Text.{Put, line_of}
use Rattle.lines.specs.Log.{printed_from, ending}
use Rattle.frame_log.specs.declared.frames.Progress.{Progress}

-- a site that keeps its rules, or zeros, which keep none
abbrev pub kept : Option Site → List ℕ
kept (Some s) = s.octets.now
kept None = empty_site

abbrev pub SameSite : Option Site → Option Site → Type 0
SameSite (Some s) (Some t) = t.octets.ghost_name ≡ s.octets.ghost_name
SameSite None None = Unit {0}
SameSite (Some s) None = ⊥
SameSite None (Some t) = ⊥

-- a length octet and as many more
unfoldable pub whole_len : List ℕ → Option ℕ
whole_len [] = None
whole_len (n ∷ l) = then_some (leb n (length l)) n

unfoldable pub next_len : ℕ → ℕ → List ℕ → Option ℕ
next_len number room h = pick (ltb number 18446744073709551615) (pick (leb 80 room) (whole_len h) None) None

-- frame f at site s with output o
pub record Answered (s f o : List ℕ) (r : Result ℕ Refusal) (s' o' : List ℕ) : Type 0 where
  pub status : status r ≡ (received s f o).answer.status
  pub private : result_unwrap_or r 0 ≡ (received s f o).answer.private
  pub site : s' ≡ (received s f o).site
  pub out : o' ≡ (received s f o).out

pub record Stepped (s f o : List ℕ) (number : ℕ) (t : List ℕ) (at : ℕ) (s' o' t' : List ℕ) (r : ℕ) : Type 0 where
  pub site : s' ≡ (received s f o).site
  pub out : o' ≡ (received s f o).out
  pub put : Put t at (line_of number (received s f o).answer.status (received s f o).answer.private) t' r

-- what is to be printed of the octets h at hand and any that may follow is the text used, and then what is to be printed of those left
pub record Batched (s o : List ℕ) (first : ℕ) (h t s' o' t' : List ℕ) (used : ℕ) (r : Progress) : Type 0 where
  pub fit : r.taken ≤ length h
  pub room : used ≤ length t'
  pub counted : 0 < r.taken → (first < r.number) × (first < 18446744073709551615)
  pub goes : (z : List ℕ) → printed_from first s o (h ++ z) ≡ take used t' ++ printed_from r.number s' o' (drop r.taken h ++ z)
  -- where no frame was answered, none is at hand
  pub done : r.taken ≡ 0 → 80 ≤ length t → first < 18446744073709551615 → whole_len h ≡ None
  pub rule : site_rule s' ≡ site_rule s

pub record Ended (h t' : List ℕ) (r : ℕ) : Type 0 where
  pub text : take r t' ≡ ending (ltb 0 (length h))
  pub room : r ≤ length t'
