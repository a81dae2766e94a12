-- A security header that was written is measured and read again, for every level, key mode and counter: by its absence at level 0, else octet by octet. Assumes nothing.
use mathlib.Core.Path.{◌≡◌, refl, sym, ◌∙◌}
use mathlib.Core.Logic.{◌≢◌}
use Prim.Native.Nat.{ℕ, ◌+◌, ◌*◌, ◌/◌, ◌%◌, ◌^◌, ◌≤◌, ◌<◌}
use native.Mathlib.Omega.{arith}
use mathlib.Core.Bool.{Bool, true, false, not}
use mathlib.Core.List.{[], ◌∷◌, ◌++◌}
use lib.ListN.{length, get_or, take, length-append}
use lib.Seq.{length-take-le}
use lib.Dec.{eqb}
use borrow.Author.Tests.{eqb-true, ne_eqb}
use Rattle.meaning.specs.Octets.{pick, octs}
use Rattle.meaning.specs.Frame.{level_of, mode_of, counter_of, key_source_len, key_id_len, aux_m}
use Rattle.meaning.specs.Build.{bit, key_id_octets, aux_octets}
use Rattle.meaning.specs.declared.Request.{Request}
use Rattle.meaning.proofs.Numbers.{length-octs}
use Rattle.demands.proofs.Addresses.{stands-at}

source-8 : (m : ℕ) → key_source_len m ≤ 8
unfolding key_source_len
source-8 m = go (eqb m 2) (eqb m 3)
  where
    go : (a b : Bool) → pick a 4 (pick b 8 0) ≤ 8
    go true b = omega arith
    go false true = omega arith
    go false false = omega arith

-- at level 0 there is none
pub aux-none : (q : Request) (c : ℕ) → q.level ≡ 0 → aux_octets q c ≡ []
unfolding aux_octets
aux-none q c e = rw e

module _ (q : Request) (c : ℕ) (long : length q.keysource ≡ 8) (level : q.level ≤ 7) (keymode : q.keymode ≤ 3) where
  length-id : length (key_id_octets q) ≡ key_id_len q.keymode
  unfolding key_id_octets key_id_len
  length-id = go (eqb q.keymode 0)
    where
      go : (t : Bool) → length (pick t [] (take (key_source_len q.keymode) q.keysource ++ (q.keyindex ∷ []))) ≡ pick t 0 (key_source_len q.keymode + 1)
      go true = refl
      go false =
          let n : key_source_len q.keymode ≤ length q.keysource = omega (arith, source-8 q.keymode) in
          length-append (take (key_source_len q.keymode) q.keysource) (q.keyindex ∷ []) ∙ rw (length-take-le (key_source_len q.keymode) q.keysource n)

  aux-some : q.level ≢ 0 → aux_octets q c ≡ (q.level + 8 * q.keymode) ∷ (octs 4 c ++ key_id_octets q)
  unfolding aux_octets
  aux-some n = rw (ne_eqb q.level 0 n)

  pub level-read : level_of (aux_octets q c) ≡ q.level
  unfolding level_of aux_octets
  level-read = go (eqb q.level 0) refl
    where
      go : (t : Bool) → eqb q.level 0 ≡ t → get_or (pick t [] ((q.level + 8 * q.keymode) ∷ (octs 4 c ++ key_id_octets q))) 0 0 % 8 ≡ q.level
      go true e = sym (eqb-true q.level 0 e)
      go false e = omega arith

  pub mode-read : q.level ≢ 0 → mode_of (aux_octets q c) ≡ q.keymode
  unfolding mode_of
  mode-read n = rw (aux-some n) (omega arith)

  pub counter-read : q.level ≢ 0 → c < 256 ^ 4 → counter_of (aux_octets q c) ≡ c
  unfolding counter_of
  counter-read n h = rw (aux-some n) (stands-at 4 c ((q.level + 8 * q.keymode) ∷ []) (key_id_octets q) 1 refl h)

  pub aux-measured : aux_m (bit (not (eqb q.level 0))) (aux_octets q c) ≡ length (aux_octets q c)
  unfolding aux_m aux_octets mode_of
  aux-measured = go (eqb q.level 0)
    where
      mode : (q.level + 8 * q.keymode) / 8 % 4 ≡ q.keymode
      mode = omega arith

      go : (t : Bool) → pick (eqb (bit (not t)) 1) (5 + key_id_len (get_or (take 1 (pick t [] ((q.level + 8 * q.keymode) ∷ (octs 4 c ++ key_id_octets q)))) 0 0 / 8 % 4)) 0
          ≡ length (pick t [] ((q.level + 8 * q.keymode) ∷ (octs 4 c ++ key_id_octets q)))
      go true = refl
      go false = rw (mode, length-append (octs 4 c) (key_id_octets q), length-octs 4 c, length-id) (omega arith)

-- its length does not depend on the counter
pub aux-long : (q : Request) (c : ℕ) → length (aux_octets q c) ≡ length (aux_octets q 0)
unfolding aux_octets octs
aux-long q c = go (eqb q.level 0)
  where
    go : (t : Bool) → length (pick t [] ((q.level + 8 * q.keymode) ∷ (octs 4 c ++ key_id_octets q)))
        ≡ length (pick t [] ((q.level + 8 * q.keymode) ∷ (octs 4 0 ++ key_id_octets q)))
    go true = refl
    go false = refl
