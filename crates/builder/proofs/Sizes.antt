-- How many octets each part of a frame takes, and at most. Assumes nothing.
use mathlib.Core.Path.{◌≡◌, refl, sym, ap, ◌∙◌}
use mathlib.Core.Bool.{Bool, true, false}
use mathlib.Core.List.{List, [], ◌∷◌, ◌++◌}
use Prim.Native.Nat.{ℕ, ◌+◌, ◌*◌, ◌≤◌, ◌<◌}
use native.Mathlib.Omega.{arith}
use lib.ListN.{length, take, length-append}
use lib.Seq.{length-take-le}
use lib.Dec.{eqb, leb}
use borrow.Author.Tests.{eq-eqb, ne_eqb, lt-leb}
use Rattle.meaning.specs.Octets.{pick, octs}
use Rattle.meaning.specs.Frame.{address_len, key_source_len, key_id_len, tag_len}
use Rattle.meaning.specs.Build.{address_octets, placed_octets, source_octets, head_octets, key_id_octets, aux_octets, header_by, frame_len}
use Rattle.meaning.specs.declared.Address.{Address}
use Rattle.meaning.specs.declared.Header.{Header}
use Rattle.meaning.specs.declared.Request.{Request}
use Rattle.meaning.proofs.Lists.{length-take-most}
use Rattle.meaning.proofs.Numbers.{length-octs}
use Rattle.meaning.proofs.Scan.{pick-all}
use Rattle.meaning.proofs.Lengths.{address-bound, key-source-bound, key-id-bound, tag-bound}

-- ---- addresses
pub length-address : (a : Address) → length (address_octets a) ≡ address_len a.mode
unfolding address_octets
length-address a = length-octs (address_len a.mode) a.address

pub placed-none : (a : Address) → a.mode ≡ 0 → 0 ≡ length (placed_octets a)
unfolding placed_octets
placed-none a h = rw (eq-eqb a.mode 0 h)

pub placed-some : (a : Address) (u : ℕ) → (a.mode ≡ 0 → ⊥) → u ≡ address_len a.mode → 2 + u ≡ length (placed_octets a)
unfolding placed_octets
placed-some a u h e =
    rw (ne_eqb a.mode 0 h, length-append (octs 2 a.pan) (address_octets a), length-address a, length-octs 2 a.pan) (ap (λ (n : ℕ). 2 + n) e)

pub source-short : (h : Header) (u : ℕ) → h.compression ≡ 1 → u ≡ address_len h.source.mode → u ≡ length (source_octets h)
unfolding source_octets
source-short h u c e = rw (eq-eqb h.compression 1 c, length-address h.source) e

pub source-whole : (h : Header) (u : ℕ) → (h.compression ≡ 1 → ⊥) → u ≡ length (placed_octets h.source) → u ≡ length (source_octets h)
unfolding source_octets
source-whole h u c e = rw (ne_eqb h.compression 1 c) e

pub length-head : (h : Header) → length (head_octets h) ≡ 3 + length (placed_octets h.destination) + length (source_octets h)
unfolding head_octets
length-head h = omega (arith, length-append (placed_octets h.destination) (source_octets h))

pub head-sum : (h : Header) (u v : ℕ) → u ≡ length (placed_octets h.destination) → v ≡ length (source_octets h) → 3 + u + v ≡ length (head_octets h)
head-sum h u v a b = omega (arith, length-head h)

pub placed-bound : (a : Address) → length (placed_octets a) ≤ 10
unfolding placed_octets
placed-bound a =
    pick-all (λ (l : List ℕ). length l ≤ 10) (eqb a.mode 0) [] _ (λ e. omega arith)
    (λ e. omega (arith, length-append (octs 2 a.pan) (address_octets a), length-address a, length-octs 2 a.pan, address-bound a.mode))

pub source-bound : (h : Header) → length (source_octets h) ≤ 10
unfolding source_octets
source-bound h =
    pick-all (λ (l : List ℕ). length l ≤ 10) (eqb h.compression 1) _ _
    (λ e. omega (arith, length-address h.source, address-bound h.source.mode)) (λ e. placed-bound h.source)

pub head-bound : (h : Header) → length (head_octets h) ≤ 23
head-bound h = omega (arith, length-head h, placed-bound h.destination, source-bound h)

-- ---- the security header
key-id-length : (q : Request) → length q.keysource ≡ 8 → length (key_id_octets q) ≡ key_id_len q.keymode
unfolding key_id_octets key_id_len
key-id-length q h = go (eqb q.keymode 0)
  where
    go : (b : Bool) → length (pick b [] (take (key_source_len q.keymode) q.keysource ++ (q.keyindex ∷ []))) ≡ pick b 0 (key_source_len q.keymode + 1)
    go true = refl
    go false =
        let n : ℕ = key_source_len q.keymode in
        length-append (take n q.keysource) (q.keyindex ∷ [])
        ∙ ap (λ (k : ℕ). k + 1) (length-take-le n q.keysource (omega (arith, key-source-bound q.keymode)))

pub key-id-most : (q : Request) → length (key_id_octets q) ≤ 9
unfolding key_id_octets
key-id-most q =
    let n : ℕ = key_source_len q.keymode in
    pick-all (λ (l : List ℕ). length l ≤ 9) (eqb q.keymode 0) [] _ (λ e. omega arith)
    (λ e. omega (arith, length-append (take n q.keysource) (q.keyindex ∷ []), length-take-most n q.keysource, key-source-bound q.keymode))

pub aux-none : (q : Request) (c : ℕ) → q.level ≡ 0 → 0 ≡ length (aux_octets q c)
unfolding aux_octets
aux-none q c h = rw (eq-eqb q.level 0 h)

pub aux-some : (q : Request) (c u : ℕ) → length q.keysource ≡ 8 → (q.level ≡ 0 → ⊥) → u ≡ key_id_len q.keymode → 5 + u ≡ length (aux_octets q c)
unfolding aux_octets
aux-some q c u k h e =
    rw (ne_eqb q.level 0 h) (omega (arith, length-append (octs 4 c) (key_id_octets q), length-octs 4 c, key-id-length q k))

-- the counter does not change the length
pub aux-same : (q : Request) (c d : ℕ) → length (aux_octets q c) ≡ length (aux_octets q d)
unfolding aux_octets
aux-same q c d = go (eqb q.level 0)
  where
    go : (b : Bool) → length (pick b [] ((q.level + 8 * q.keymode) ∷ (octs 4 c ++ key_id_octets q))) ≡ length (pick b [] ((q.level + 8 * q.keymode) ∷ (octs 4 d ++ key_id_octets q)))
    go true = refl
    go false = omega (arith, length-append (octs 4 c) (key_id_octets q), length-append (octs 4 d) (key_id_octets q), length-octs 4 c, length-octs 4 d)

pub aux-bound : (q : Request) (c : ℕ) → length (aux_octets q c) ≤ 14
unfolding aux_octets
aux-bound q c =
    pick-all (λ (l : List ℕ). length l ≤ 14) (eqb q.level 0) [] _ (λ e. omega arith)
    (λ e. omega (arith, length-append (octs 4 c) (key_id_octets q), length-octs 4 c, key-id-most q))

-- ---- the whole frame
module _ (t : List ℕ) (q : Request) (o p : List ℕ) where
  pub open-long : 127 < length o → false ≡ leb (frame_len t q o p) 127
  unfolding frame_len
  open-long h = sym (lt-leb (frame_len t q o p) 127 (omega arith))

  pub private-long : 127 < length p → false ≡ leb (frame_len t q o p) 127
  unfolding frame_len
  private-long h = sym (lt-leb (frame_len t q o p) 127 (omega arith))

  pub whole : (u v w : ℕ) (h : Header) → h ≡ header_by t q → u ≡ length (head_octets h) → v ≡ length (aux_octets q 0) → w ≡ tag_len q.level
      → leb (u + v + length o + length p + w + 2) 127 ≡ leb (frame_len t q o p) 127
  unfolding frame_len
  whole u v w h e a b c = rw (a, b, c, e)

pub ruleset sizes = (placed-none, placed-some, source-short, source-whole, head-sum, aux-none, aux-some, open-long, private-long, whole, placed-bound, source-bound, head-bound, aux-bound, address-bound, key-id-bound, tag-bound)
