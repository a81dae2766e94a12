-- The laws of a search in steps: of the handle search, and that the trials lead to `handle_row_by`. Assumes nothing.
use Rattle.std.specs.Prelude.{Option, Some, None, MatchOption, IsSomeAnd}
use Rattle.std.specs.declared.ops.Range.{Range}
use Rattle.std.specs.Fn.{CalledAt}
use Rattle.std.specs.Iterator.{FindsItem}
use Rattle.std.specs.List.{find, range_with_len}
use Rattle.std.specs.Option.{option_map}
use Rattle.std.proofs.lemmas.Iterator.{YieldsList-from_range}
use Rattle.std.proofs.lemmas.Iterator.Search.{find_from_yields_List}
use Rattle.std.proofs.lemmas.Iterator.Adapters.{option_map_id}
use Rattle.std.proofs.iter.Yields.{nat_range_steps}
use denote.Ref.{Bor}
use denote.Param.Members.{Mut}
use native.Mathlib.Numerals.{add-one}
use mathlib.Core.Path.{◌≡◌, refl, ap, sym, ◌∙◌}
use mathlib.Core.Bool.{Bool, true, false, ◌&&◌, cond}
use mathlib.Core.List.{List}
use Prim.Native.Nat.{ℕ, zero, suc, ◌+◌, ◌-◌, ◌≤◌, ◌<◌}
use native.Mathlib.Omega.{arith}
use lib.ListN.{get_or}
use Rattle.meaning.specs.Octets.{pick, scan}
use Rattle.meaning.specs.Records.{records, no_device}
use Rattle.meaning.specs.Steps.{is_peer}
use Rattle.search.specs.Rows.{handle_row_by}
use Rattle.meaning.specs.declared.Device.{Device}
use Rattle.meaning.proofs.Scan.{step, pick-all}
use Rattle.meaning.proofs.Tests.{and_left}
use Rattle.devices.specs.Devices.{is_handle, device_of, trial, handle_from}
use Rattle.devices.specs.declared.Sought.{Sought}
use Rattle.devices.specs.declared.Trial.{Trial}

-- ---- the search of `handle_from`
-- the first of n numbers from i on that passes a test, with what it gives, as a chain of the library says it and as the definitions do
find-scan : (p : ℕ → Bool) (f : ℕ → Trial) (n i : ℕ) → option_map f (find p (range_with_len i n)) ≡ scan p (λ k. Some (f k)) None n i
find-scan p f zero i = refl
find-scan p f (suc n) i = here (p i) (find-scan p f n (i + 1))
  where
    here : (t : Bool) → option_map f (find p (range_with_len (i + 1) n)) ≡ scan p (λ k. Some (f k)) None n (i + 1)
        → option_map f (cond t (Some i) (find p (range_with_len (i + 1) n))) ≡ pick t (Some (f i)) (scan p (λ k. Some (f k)) None n (suc i))
    here true e = refl
    here false e = e ∙ ap (λ (j : ℕ). scan p (λ k. Some (f k)) None n j) (add-one i)

-- `find` over the numbers from `from` on below m, by a closure that gives p of each and changes nothing, and f of what it finds
pub found-from : {F : Type 0} {g : Mut F (Bor ℕ × Unit {0}) Bool} (p : ℕ → Bool) (f : ℕ → Trial) (from m : ℕ) (u : Range ℕ) (w : F) (r : Option ℕ)
    → FindsItem nat_range_steps g (record { start = from; end = m }) w r u → ((x : ℕ) (b : Bool) (q : F) → CalledAt g w x b q → (q ≡ w) × (b ≡ p x))
    → option_map f r ≡ scan p (λ k. Some (f k)) None (m - from) from
found-from p f from m u w r ran told =
    ap (option_map f) (sym (option_map_id r) ∙ find_from_yields_List p u w r ran (YieldsList-from_range from m (m - from) refl refl) told)
    ∙ find-scan p f (m - from) from

-- what `map` makes of it, by a closure that gives f
pub mapped : (f : ℕ → Trial) (o : Option ℕ) (r : Option Trial) (Q : ℕ → Trial → Type 0) → MatchOption o (r ≡ None) (λ x. IsSomeAnd r (Q x))
    → ((x : ℕ) (y : Trial) → Q x y → y ≡ f x) → r ≡ option_map f o
mapped f None r Q h q = h
mapped f (Some x) None Q h q = absurd h
mapped f (Some x) (Some y) Q h q = ap Some (q x y h)

-- ---- the trials lead to `handle_row_by`
module _ (ds : List Device) (hs : List ℕ) (s : Sought) where
  abbrev Handle : ℕ → Bool
  Handle k = is_handle hs s.key k

  abbrev Peer : ℕ → Bool
  Peer k = is_peer s.peer (get_or ds (device_of hs k) no_device)

  abbrev Right : ℕ → Bool
  Right k = Handle k && Peer k

  abbrev n : ℕ
  n = records 2 hs

  abbrev pub right : Option ℕ
  right = handle_row_by hs ds s.key s.peer

  -- the handle at `at` is one of the key's, and those before it were not it
  pub record Trying (t : Trial) : Type 0 where
    pub below : t.at < n
    pub ours : Handle t.at ≡ true
    pub named : t.device ≡ device_of hs t.at
    pub same : right ≡ scan Right Some None (n - t.at) t.at

  -- what is known of the next trial, or of there being none
  abbrev pub Sound : Option Trial → Type 0
  Sound None = None ≡ right
  Sound (Some t) = Trying t

  -- how much is left to try
  abbrev pub left : Option Trial → ℕ
  left None = 0
  left (Some t) = suc (n - t.at)

  -- the search from i on, in trials, where those before i were not it
  from-sound : (j i : ℕ) → i + j ≡ n → right ≡ scan Right Some None j i → Sound (scan Handle (λ k. Some (trial hs k)) None j i)
  from-sound zero i e same = sym same
  from-sound (suc j) i e same =
      pick-all Sound (Handle i) (Some (trial hs i)) (scan Handle (λ k. Some (trial hs k)) None j (suc i))
      (λ h.
      let m-is : suc j ≡ n - i = omega arith in
      record { below = omega arith; ours = h; named = refl; same = same ∙ ap (λ (m : ℕ). scan Right Some None m i) m-is })
      (λ h. from-sound j (suc i) (omega arith) (same ∙ rw (and_left (Handle i) (Peer i) h)))

  pub start-sound : Sound (handle_from hs s.key 0)
  unfolding handle_from handle_row_by
  start-sound = let m-is : n ≡ n - 0 = omega arith in from-sound (n - 0) 0 (omega arith) (ap (λ (m : ℕ). scan Right Some None m 0) m-is)

  from-left : (j i : ℕ) → left (scan Handle (λ k. Some (trial hs k)) None j i) ≤ suc (n - i)
  from-left zero i = omega arith
  from-left (suc j) i =
      pick-all (λ (o : Option Trial). left o ≤ suc (n - i)) (Handle i) (Some (trial hs i)) (scan Handle (λ k. Some (trial hs k)) None j (suc i)) (λ h. omega arith)
      (λ h. let r : left (scan Handle (λ k. Some (trial hs k)) None j (suc i)) ≤ suc (n - suc i) = from-left j (suc i) in omega arith)

  module _ {o : Option Trial} {t : Trial} (known : Sound o) (is : o ≡ Some t) where
    w : Trying t
    w = rw is at known

    -- the step of the search that this trial takes, by whether its device is the peer
    here : right ≡ pick (Peer t.at) (Some t.at) (scan Right Some None (n - (t.at + 1)) (t.at + 1))
    here = w.same ∙ step Right Some None n t.at w.below ∙ rw w.ours

    pub next-sound : is_peer s.peer (get_or ds t.device no_device) ≡ false → Sound (handle_from hs s.key (t.at + 1))
    unfolding handle_from
    next-sound y =
        let z : Peer t.at ≡ false = rw w.named at y in
        let b : t.at < n = w.below in
        from-sound (n - (t.at + 1)) (t.at + 1) (omega arith) (here ∙ rw z)

    pub next-less : left (handle_from hs s.key (t.at + 1)) < left o
    unfolding handle_from
    next-less =
        rw is (
        let b : t.at < n = w.below in
        let r : left (handle_from hs s.key (t.at + 1)) ≤ suc (n - (t.at + 1)) = from-left (n - (t.at + 1)) (t.at + 1) in
        omega arith)
