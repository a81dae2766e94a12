-- Demand 3, on the octets that two callers lend: what a receiver shows depends on no key octet and no private octet. Assumes nothing: these are definitions.
-- keys_at, keys_len   where the key octets of a site stand: the region of the keys
-- AlikeSites        two sites that are equal outside them
-- span, outside     how many of a frame's first octets stand outside private payload, tag and FCS
-- tag_seen           the tag's verdict, where a frame comes so far
-- AlikeFrames       two frames that pair up
-- Paired            two lists of frames that pair up, each pair where the receivers then stand
-- Agreed            one pair of outcomes that tell nothing apart
-- Agree             each pair of outcomes of the two lists
use Rattle.std.specs.Prelude.{ℕ, ◌+◌, ◌*◌, ◌-◌, max, ◌≡◌, Bool, ◌&&◌, List, [], ◌∷◌, length, get_or, take, drop, leb, eqb, Ok, Err}
use Rattle.std.proofs.Math.Option.{Option, none, some}
use Rattle.meaning.specs.Octets.{pick, part}
use Rattle.meaning.specs.Frame.{counter_of, View, view, cuts_of, open_end}
use Rattle.meaning.specs.Fcs.{inner, fcs_right}
use Rattle.meaning.specs.Records.{keys, width_of, limit_of, Store, key_at, no_device}
use Rattle.meaning.specs.Site.{place_of, site_rule, store_of}
use Rattle.meaning.specs.Receive.{Judged, judged, stored, timely, opened, Outcome, received}
use Rattle.meaning.specs.declared.Passed.TheVariants.{Plain, Secure}

-- ---- sites
-- a site that breaks a rule has no key octets
unfoldable pub keys_at : List ℕ → ℕ
keys_at s = pick (site_rule s) (place_of keys) (length s)

unfoldable pub keys_len : List ℕ → ℕ
keys_len s = pick (site_rule s) (width_of keys * limit_of keys) 0

pub record AlikeSites (s t : List ℕ) : Type 0 where
  pub lengths : length s ≡ length t
  pub before : take (keys_at s) s ≡ take (keys_at s) t
  pub after : drop (keys_at s + keys_len s) s ≡ drop (keys_at s + keys_len s) t

-- ---- frames
-- statuses 1 to 3 compare the whole frame, 4 to 7 all but the FCS, and the others what is open
unfoldable pub span : ℕ → List ℕ → ℕ
span status f =
    pick (eqb status 0) (open_end (cuts_of (inner f)))
    (pick (leb status 3) (length f)
    (pick (leb status 7) (length f - 2) (open_end (cuts_of (inner f)))))

-- of frame f, received at site s with output o
unfoldable pub outside : List ℕ → List ℕ → List ℕ → ℕ
outside s f o = span (received s f o).answer.status f

-- a frame reaches its tag where site and room are right, a key and a device are found and the counter is timely
unfoldable pub tag_at : Store → View → List ℕ → Judged → Option Bool
tag_at σ v b (Err r) = none
tag_at σ v b (Ok Plain) = none
tag_at σ v b (Ok (Secure k j d)) =
    pick (timely (stored σ.counters j d) (counter_of v.aux))
    (some (opened (key_at σ.keys k) (get_or σ.tables.devices d no_device).extended v b).right) none

unfoldable pub tag_seen : List ℕ → List ℕ → List ℕ → Option Bool
tag_seen s f o =
    pick (site_rule s && leb 127 (length o)) (tag_at (store_of s) (view (inner f)) (inner f) (judged (store_of s).tables f)) none

-- frame f at site s with output o, and frame g at site t with output p
pub record AlikeFrames (s t f g o p : List ℕ) : Type 0 where
  pub lengths : length f ≡ length g
  pub octets : take (outside s f o) f ≡ take (outside s f o) g
  -- both FCS right or both wrong
  pub checks : fcs_right f ≡ fcs_right g
  -- where both reach the tag, both right or both wrong
  pub tags : (x y : Bool) → tag_seen s f o ≡ some x → tag_seen t g p ≡ some y → x ≡ y

abbrev pub Paired : List ℕ → List ℕ → List ℕ → List ℕ → List (List ℕ) → List (List ℕ) → Type 0
Paired s t o p [] [] = Unit {0}
Paired s t o p [] (g ∷ gs) = ⊥
Paired s t o p (f ∷ fs) [] = ⊥
Paired s t o p (f ∷ fs) (g ∷ gs) =
    let x : Outcome = received s f o in
    let y : Outcome = received t g p in
    AlikeFrames s t f g o p × Paired x.site y.site x.out y.out fs gs

-- ---- outcomes
-- x of frame f, y of frame g; n is the longest private payload accepted so far
pub record Agreed (n : ℕ) (f g : List ℕ) (x y : Outcome) : Type 0 where
  -- status, header, level, key mode, device, private length, place and length of the open payload
  pub answers : x.answer ≡ y.answer
  pub opens : part x.answer.start x.answer.len f ≡ part y.answer.start y.answer.len g
  pub counters : (store_of x.site).counters ≡ (store_of y.site).counters
  pub sites : AlikeSites x.site y.site
  pub rooms : length x.out ≡ length y.out
  pub outs : drop n x.out ≡ drop n y.out

abbrev pub Agree : ℕ → List ℕ → List ℕ → List ℕ → List ℕ → List (List ℕ) → List (List ℕ) → Type 0
Agree m s t o p [] [] = Unit {0}
Agree m s t o p [] (g ∷ gs) = ⊥
Agree m s t o p (f ∷ fs) [] = ⊥
Agree m s t o p (f ∷ fs) (g ∷ gs) =
    let x : Outcome = received s f o in
    let y : Outcome = received t g p in
    let n : ℕ = max m x.answer.private in
    Agreed n f g x y × Agree n x.site y.site x.out y.out fs gs

-- demand 3: the output buffers start equal
unfoldable pub Secret : Type 0
Secret = (s t o : List ℕ) (fs gs : List (List ℕ)) → AlikeSites s t → Paired s t o o fs gs → Agree 0 s t o o fs gs
