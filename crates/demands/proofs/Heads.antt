-- A header that was written is measured and read again, for every header whose fields have their widths: the two control octets by arithmetic, the
-- addresses by their places. Assumes nothing.
use mathlib.Core.Path.{◌≡◌, refl, sym, ap, ◌∙◌}
use mathlib.Core.Logic.{◌≢◌}
use Prim.Native.Nat.{ℕ, ◌+◌, ◌/◌, ◌%◌, ◌≤◌, ◌<◌}
use native.Mathlib.Omega.{arith}
use mathlib.Core.Bool.{Bool, true, false}
use mathlib.Core.List.{List, [], ◌∷◌, ◌++◌, append-nil}
use lib.ListN.{length, length-append}
use lib.Dec.{eqb}
use borrow.Author.Tests.{eqb-true}
use Rattle.meaning.specs.Octets.{pick}
use Rattle.meaning.specs.Frame as F
use Rattle.meaning.specs.Frame.{address_len, address_at, head_m, header_of}
use Rattle.meaning.specs.Build.{first_octet, second_octet, address_octets, placed_octets, source_octets, head_octets}
use Rattle.meaning.specs.declared.Header.{Header}
use Rattle.demands.proofs.Addresses.{Carried, placed-len, address-len, no-address, read-at, pan-read, placed-read, alone-read}

-- ---- a header whose fields have their widths
pub record Written (h : Header) : Type 0 where
  pub kind : h.kind < 8
  pub security : h.security < 2
  pub pending : h.pending < 2
  pub request : h.request < 2
  pub compression : h.compression < 2
  pub version : h.version < 4
  pub destination : Carried h.destination
  pub source : Carried h.source
  -- compression drops a PAN that the destination has
  pub shared : h.compression ≡ 1 → (h.destination.mode ≢ 0) × (h.destination.pan ≡ h.source.pan)

source-octets : (h : Header) → length (source_octets h) ≡ pick (eqb h.source.mode 0) 0 (pick (eqb h.compression 1) 0 2 + address_len h.source.mode)
unfolding source_octets
source-octets h = go (eqb h.compression 1)
  where
    bare : (t : Bool) → eqb h.source.mode 0 ≡ t → length (address_octets h.source) ≡ pick t 0 (0 + address_len h.source.mode)
    bare true e = let z : h.source.mode ≡ 0 = eqb-true h.source.mode 0 e in address-len h.source ∙ ap address_len z ∙ no-address
    bare false e = omega (arith, address-len h.source)

    go : (t : Bool) → length (pick t (address_octets h.source) (placed_octets h.source))
        ≡ pick (eqb h.source.mode 0) 0 (pick t 0 2 + address_len h.source.mode)
    go true = bare (eqb h.source.mode 0) refl
    go false = placed-len h.source

module _ (h : Header) (w : Written h) where
  pub type-read : F.type_of (head_octets h) ≡ h.kind
  unfolding F.type_of head_octets first_octet
  type-read = omega arith

  pub security-read : F.security_of (head_octets h) ≡ h.security
  unfolding F.security_of head_octets first_octet
  security-read = omega arith

  pending-read : F.pending_of (head_octets h) ≡ h.pending
  unfolding F.pending_of head_octets first_octet
  pending-read = omega arith

  request-read : F.request_of (head_octets h) ≡ h.request
  unfolding F.request_of head_octets first_octet
  request-read = omega arith

  compression-read : F.compression_of (head_octets h) ≡ h.compression
  unfolding F.compression_of head_octets first_octet
  compression-read = omega arith

  -- the second octet
  modes : (second_octet h / 4 % 4 ≡ h.destination.mode) × (second_octet h / 16 % 4 ≡ h.version) × (second_octet h / 64 % 4 ≡ h.source.mode)
  unfolding second_octet
  modes = let m : h.destination.mode < 4 = w.destination.mode in let n : h.source.mode < 4 = w.source.mode in omega arith

  compressed : first_octet h / 64 % 2 ≡ h.compression
  unfolding first_octet
  compressed = omega arith

  -- any list that begins as the header does says how long its addresses are
  destination-len : (r : List ℕ) → F.destination_len (first_octet h ∷ second_octet h ∷ r) ≡ length (placed_octets h.destination)
  unfolding F.destination_len F.destination_mode
  destination-len r = rw modes.0 (sym (placed-len h.destination))

  source-len : (r : List ℕ) → F.source_len (first_octet h ∷ second_octet h ∷ r) ≡ length (source_octets h)
  unfolding F.source_len F.source_mode F.compression_of
  source-len r = rw (modes.2, compressed) (sym (source-octets h))

  length-head : length (head_octets h) ≡ 3 + (length (placed_octets h.destination) + length (source_octets h))
  unfolding head_octets
  length-head = rw (length-append (placed_octets h.destination) (source_octets h)) (omega arith)

  pub head-measured : head_m (head_octets h) ≡ length (head_octets h)
  unfolding head_m head_octets
  head-measured = rw (destination-len (h.sequence ∷ []), source-len (h.sequence ∷ [])) (omega (arith, length-head))

  pub head-least : 3 ≤ length (head_octets h)
  head-least = omega (arith, length-head)

  -- with no address it has 3 octets
  pub head-bare : h.destination.mode ≡ 0 → h.source.mode ≡ 0 → length (head_octets h) ≡ 3
  head-bare d e =
      let a : length (placed_octets h.destination) ≡ 0 = placed-len h.destination ∙ rw d in
      let b : length (source_octets h) ≡ 0 = source-octets h ∙ rw e in
      omega (arith, length-head)

  destination-read : F.destination_of (head_octets h) ≡ h.destination
  unfolding F.destination_of F.destination_mode head_octets
  destination-read =
      rw modes.0 (placed-read h.destination w.destination (first_octet h ∷ second_octet h ∷ h.sequence ∷ []) (source_octets h) 3 refl)

  -- the header's octets before the source
  before : List ℕ
  before = first_octet h ∷ second_octet h ∷ h.sequence ∷ placed_octets h.destination

  before-len : length before ≡ 3 + length (placed_octets h.destination)
  unfolding before
  before-len = omega arith

  -- under compression the PAN is the destination's
  shared-read : h.compression ≡ 1
      → address_at (before ++ address_octets h.source) h.source.mode 3 (3 + length (placed_octets h.destination)) ≡ h.source
  unfolding before
  shared-read e =
      read-at h.source w.source (before ++ address_octets h.source) 3 (3 + length (placed_octets h.destination))
      (λ n.
      pan-read h.destination w.destination (first_octet h ∷ second_octet h ∷ h.sequence ∷ []) (address_octets h.source) 3 refl (w.shared e).0
      ∙ (w.shared e).1)
      (λ n. alone-read h.source w.source before (3 + length (placed_octets h.destination)) before-len)

  own_read : address_at (before ++ placed_octets h.source) h.source.mode (3 + length (placed_octets h.destination)) (5 + length (placed_octets h.destination)) ≡ h.source
  own_read =
      let n : ℕ = length (placed_octets h.destination) in
      let e : 5 + n ≡ 2 + (3 + n) = omega arith in
      rw (e, ← append-nil (placed_octets h.source)) (placed-read h.source w.source before [] (3 + n) before-len)

  source-read : F.source_of (head_octets h) ≡ h.source
  unfolding F.source_of F.source_mode F.compression_of head_octets source_octets before
  source-read =
      rw (modes.2, compressed, destination-len (h.sequence ∷ (placed_octets h.destination ++ source_octets h)))
      (go (eqb h.compression 1) refl)
    where
      go : (t : Bool) → eqb h.compression 1 ≡ t
          → pick t
          (address_at (before ++ pick t (address_octets h.source) (placed_octets h.source)) h.source.mode 3 (3 + length (placed_octets h.destination)))
          (address_at (before ++ pick t (address_octets h.source) (placed_octets h.source)) h.source.mode (3 + length (placed_octets h.destination)) (5 + length (placed_octets h.destination)))
          ≡ h.source
      go true e = shared-read (eqb-true h.compression 1 e)
      go false e = own_read

  pub header_read : header_of (head_octets h) ≡ h
  unfolding header_of head_octets F.version_of
  header_read = λ i. record {
    kind = type-read i;
    security = security-read i;
    pending = pending-read i;
    request = request-read i;
    compression = compression-read i;
    version = modes.1 i;
    sequence = h.sequence;
    destination = destination-read i;
    source = source-read i;
  }
