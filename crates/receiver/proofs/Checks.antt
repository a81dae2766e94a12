-- What the stages' searches ask, and what was found: a search's answer tried, and the record that it names. Assumes nothing.
use Rattle.std.specs.Prelude.{Option, Some, None, Result, Ok, Err}
use Rattle.std.specs.Option.{ok_or}
use Rattle.std.specs.Result.{result_ok}
use mathlib.Core.Path.{◌≡◌, refl, sym, ap, ◌∙◌}
use mathlib.Core.Bool.{true}
use mathlib.Core.List.{List}
use Prim.Native.Nat.{ℕ, ◌≤◌, ◌<◌}
use native.Mathlib.Omega.{arith}
use lib.ListN.{length, get_or}
use Rattle.meaning.specs.Frame.{level_of}
use Rattle.meaning.specs.Records.{devices_in, handle_at, levels, handles_in, width_of, records, device_at, no_device}
use Rattle.meaning.specs.Site.{count_of, body, site_rule}
use Rattle.meaning.specs.Steps.{level_row, device_row, key_source, handle_of, handle_row}
use Rattle.meaning.specs.Receive.{Judged, try}
use Rattle.meaning.specs.declared.Refusal.{Refusal}
use Rattle.meaning.specs.declared.Address.{Address}
use Rattle.meaning.specs.declared.Device.{Device}
use Rattle.meaning.proofs.Lengths.{level-bound}
use Rattle.meaning.proofs.Tabs.{get_or-tab}
use Rattle.meaning.proofs.Sites.{records-is}
use Rattle.meaning.proofs.Rows.{level-below}
use Rattle.search.proofs.Laws.{key_source-length, device-below-tab, handle-of, handle-below-by}

-- ---- what a search found, and what it did not
pub none-tried : (r : Refusal) (k : ℕ → Judged) → try None r k ≡ Err r
unfolding try
none-tried r k = refl

pub one-tried : (i : ℕ) (r : Refusal) (k : ℕ → Judged) → try (Some i) r k ≡ k i
unfolding try
one-tried i r k = refl

pub ruleset tried = (none-tried, one-tried)

-- and as the `Result` that `?` takes apart
pub found : (u : Option ℕ) (w : Result ℕ Refusal) (i : ℕ) → u ≡ result_ok w → w ≡ Ok i → u ≡ Some i
found u w i p e = p ∙ ap result_ok e

abbrev refusal-in : Refusal → Result ℕ Refusal → Refusal
refusal-in r (Ok i) = r
refusal-in r (Err e) = e

told : (u : Option ℕ) (r : Refusal) → refusal-in r (ok_or u r) ≡ r
told None r = refl
told (Some i) r = refl

pub missed : (u : Option ℕ) (w : Result ℕ Refusal) (r e : Refusal) → w ≡ ok_or u r → u ≡ result_ok w → w ≡ Err e → (u ≡ None) × (e ≡ r)
missed u w r e v p q = (p ∙ ap result_ok q, ap (refusal-in r) (sym q ∙ v) ∙ told u r)

-- the record that it names
pub handle-found : (hs : List ℕ) (ds : List Device) (key : ℕ) (p : Address) (j : ℕ) → handle_row (handles_in hs) ds key p ≡ Some j → handle_of (handles_in hs) j ≡ (handle_at hs j).device
handle-found hs ds key p j e = handle-of hs j (handle-below-by hs ds key p _ j refl e)

pub device-found : (ds : List ℕ) (p : Address) (d : ℕ) → device_row (devices_in ds) p ≡ Some d → get_or (devices_in ds) d no_device ≡ device_at ds d
device-found ds p d e = get_or-tab (device_at ds) no_device (records 17 ds) d (device-below-tab ds (records 17 ds) p _ d refl e)

-- ---- what the searches ask
-- the level record found lies in its table
pub level_in : (s ls : List ℕ) (kind command i : ℕ) (u : Option ℕ) → site_rule s ≡ true → ls ≡ body s levels → u ≡ level_row ls kind command → u ≡ Some i → i < count_of s levels
unfolding width_of
level_in s ls kind command i u rule a e f =
    let n : records 5 (body s levels) ≡ count_of s levels = records-is s rule levels (omega arith) in
    rw n at (level-below (body s levels) kind command u i (rw a at e) f)

pub source-short : (st given source : List ℕ) (mode : ℕ) → source ≡ key_source st given mode → length source ≤ 8
source-short st given source mode e = rw e (key_source-length st given mode)

pub row-in : (s ls : List ℕ) (i : ℕ) → site_rule s ≡ true → i < count_of s levels → ls ≡ body s levels → i < records 5 ls
unfolding width_of
row-in s ls i rule h a =
    let n : records 5 (body s levels) ≡ count_of s levels = records-is s rule levels (omega arith) in
    rw (a, n) h

pub level-lt : (xs : List ℕ) (l : ℕ) → l ≡ level_of xs → l < 8
level-lt xs l e = rw e (level-bound xs)

pub ruleset placed = (row-in, level-lt)
