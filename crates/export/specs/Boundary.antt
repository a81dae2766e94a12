-- What the exported functions answer and leave of what they are lent. Assumes nothing: these are definitions.
-- Exchange, received_by   wirdhalef_receive: its number; site, output and answer afterwards
-- open_place              wirdhalef_open_payload
-- Delivery, built_by      wirdhalef_build: its number; site and output afterwards
-- Tally, many_by, many    wirdhalef_receive_many: its number; site and output afterwards
use Rattle.std.specs.Prelude.{ℕ, zero, suc, ◌+◌, ◌*◌, List, [], ◌∷◌, length, take, drop, ltb, eqb}
use Rattle.std.proofs.lemmas.List.Edits.{sets}
use Rattle.meaning.specs.Octets.{pick}
use Rattle.meaning.specs.Fcs.{inner}
use Rattle.meaning.specs.Frame.{cuts_of}
use Rattle.meaning.specs.Site.{site_rule}
use Rattle.meaning.specs.Receive.{Outcome, received_valid, received}
use Rattle.meaning.specs.Build.{Construction, built}
use Rattle.meaning.specs.declared.Cuts.{Cuts}
use Rattle.frame.specs.Parts.{divided}
use Rattle.export.specs.Packed.{packed, request_from}

-- ---- receiving
pub record Exchange : Type 0 where
  pub status : ℕ
  pub site : List ℕ
  pub out : List ℕ
  pub answer : List ℕ

abbrev pub exchange : ℕ → List ℕ → List ℕ → List ℕ → Exchange
exchange n s o a = record { status = n; site = s; out = o; answer = a }

-- the answer in the first 48 octets of a
unfoldable pub told : Outcome → List ℕ → Exchange
told w a = exchange w.answer.status w.site w.out (sets a 0 (packed w.answer))

-- site s, frame f, output o, answer a; an answer of less than 48 octets gets 2
unfoldable pub received_by : List ℕ → List ℕ → List ℕ → List ℕ → Exchange
received_by s f o a = pick (ltb (length a) 48) (exchange 2 s o a) (told (received s f o) a)

-- ---- the open payload: its start and its length in one number
unfoldable pub place_in : Cuts → ℕ
place_in c = 65536 * (c.head + c.aux) + c.opens

-- 0 where the frame cannot be divided
unfoldable pub open_place : List ℕ → ℕ
open_place f =
    pick (ltb (length f) 5) 0
    (pick (ltb 127 (length f)) 0 (pick (divided (inner f)) (place_in (cuts_of (inner f))) 0))

-- ---- building
pub record Delivery : Type 0 where
  pub number : ℕ
  pub site : List ℕ
  pub out : List ℕ

abbrev pub delivery : ℕ → List ℕ → List ℕ → Delivery
delivery n s o = record { number = n; site = s; out = o }

-- status and length in one number
unfoldable pub delivered : Construction → Delivery
delivered w = delivery (w.answer.status + 256 * w.answer.len) w.site w.out

-- site s, request q in octets, open payload o, private payload p, output out
unfoldable pub built_by : List ℕ → List ℕ → List ℕ → List ℕ → List ℕ → Delivery
built_by s q o p out = delivered (built s (request_from q) o p out)

-- ---- many frames, each a length octet and its octets, up to the first that is cut
pub record Tally : Type 0 where
  pub accepted : ℕ
  pub site : List ℕ
  pub out : List ℕ

abbrev pub tally : ℕ → List ℕ → List ℕ → Tally
tally n s o = record { accepted = n; site = s; out = o }

-- n, and one more for a success
unfoldable pub counted : ℕ → ℕ → ℕ
counted n status = pick (eqb status 0) (n + 1) n

-- at most k frames of l, after n accepted
unfoldable pub many_by : ℕ → ℕ → List ℕ → List ℕ → List ℕ → Tally
many_by zero n s o l = tally n s o
many_by (suc k) n s o [] = tally n s o
many_by (suc k) n s o (x ∷ l) =
    pick (ltb (length l) x) (tally n s o)
    (many_by k (counted n (received_valid s (take x l) o).answer.status) (received_valid s (take x l) o).site
    (received_valid s (take x l) o).out (drop x l))

-- a frame takes at least an octet
unfoldable pub many : List ℕ → List ℕ → List ℕ → Tally
many s l o = many_by (length l) 0 s o l

-- none where the site breaks its rules
unfoldable pub received_many : List ℕ → List ℕ → List ℕ → Tally
received_many s l o = pick (site_rule s) (many s l o) (tally 0 s o)
