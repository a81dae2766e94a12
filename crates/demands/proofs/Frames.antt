-- The frame that a build gives: what the receiver is shown of it, and that statuses 3, 4, 5 and 7 never strike it. Each part is measured from its own
-- first octets. Assumes nothing.
use mathlib.Core.Path.{◌≡◌, refl, sym, ap, ◌∙◌}
use Prim.Native.Nat.{ℕ, ◌+◌, ◌-◌, ◌≤◌}
use native.Mathlib.Omega.{arith}
use mathlib.Core.Bool.{Bool, true, false, ◌&&◌, not}
use mathlib.Core.List.{List, ◌++◌}
use lib.ListN.{length, drop, length-append}
use lib.Seq.{take_at, drop_at}
use lib.Dec.{eqb}
use borrow.Author.Tests.{le-leb}
use Rattle.meaning.specs.Frame.{type_of, security_of, level_of, tag_len, aux_m, open_m, View, view, open_end, private_len, head_right, bodied}
use Rattle.meaning.specs.Fcs.{fcs, inner, fcs_right}
use Rattle.meaning.specs.Records.{Tables, Store}
use Rattle.meaning.specs.Receive.{check, on_parts, on_view, judge, judged}
use Rattle.meaning.specs.Build.{bit, header_by, head_octets, aux_octets, frame_len, with_fcs}
use Rattle.meaning.specs.declared.Request.{Request}
use Rattle.meaning.proofs.Lists.{same-self}
use Rattle.meaning.proofs.Numbers.{length-octs}
use Rattle.meaning.proofs.Frame.{view-joined}
use Rattle.demands.specs.Round.{Octets, Ranged, admission}
use Rattle.demands.proofs.Heads.{Written, head-measured, head-least, header_read, type-read, security-read}
use Rattle.demands.proofs.Asked.{Asked}
use Rattle.demands.proofs.Formed.{written, head-right, bare-level, bare-head}
use Rattle.demands.proofs.Auxes.{aux-none, aux-long, aux-measured, level-read}
use Rattle.demands.proofs.Parts.{sealed_sent, body_sent, cipher-long, tag-long, no-tag}

-- ---- the FCS behind any octets
module _ (b : List ℕ) where
  pub length-with : length (with_fcs b) ≡ length b + 2
  unfolding with_fcs fcs
  length-with = length-append b (fcs b) ∙ rw (length-octs 2)

  pub inner-with : inner (with_fcs b) ≡ b
  unfolding inner with_fcs
  inner-with = take_at b (fcs b) (length (with_fcs b) - 2) (omega (arith, length-with))

  last-with : drop (length (with_fcs b) - 2) (with_fcs b) ≡ fcs b
  unfolding with_fcs
  last-with = drop_at b (fcs b) (length (with_fcs b) - 2) (omega (arith, length-with))

  pub right-with : fcs_right (with_fcs b) ≡ true
  unfolding fcs_right
  right-with = rw (inner-with, last-with) (same-self (fcs b))

-- a frame that is whole and well formed comes to filter and policies
judge-whole : (g : Tables) (n : ℕ) (v : View) → 5 ≤ n → n ≤ 127 → head_right v.cuts v.header v.size ≡ true
    → not (eqb v.header.security 1 && eqb v.header.version 0) ≡ true → bodied v ≡ true
    → judge g n true v ≡ admission g v.header v.aux v.opens
unfolding judge on_view on_parts admission check
judge-whole g n v a b d e f = rw (le-leb 5 n a, le-leb n 127 b, d, e, f)

no-open : (k : ℕ) (l : List ℕ) → k ≡ 2 → open_m k l ≡ 0
unfolding open_m
no-open k l e = rw e

-- ---- the built frame
module _ (σ : Store) (q : Request) (o p : List ℕ) (r : Ranged q) (ot : Octets σ.tables.settings)
    (a : Asked σ.tables.settings q o p) (fits : frame_len σ.tables.settings q o p ≤ 127) where
  abbrev h : List ℕ
  h = head_octets (header_by σ.tables.settings q)

  abbrev x : List ℕ
  x = aux_octets q σ.own

  abbrev c : List ℕ
  c = (sealed_sent σ q o p).cipher

  abbrev t : List ℕ
  t = (sealed_sent σ q o p).tag

  w : Written (header_by σ.tables.settings q)
  w = written σ.tables.settings q o p r ot a

  -- what the receiver is shown
  unfoldable pub shown : View
  shown = record {
    size = length (body_sent σ q o p);
    cuts = record { head = length h; aux = length x; opens = length o };
    header = header_by σ.tables.settings q;
    aux = x;
    opens = o;
  }

  size_is : length (body_sent σ q o p) ≡ length h + (length x + (length o + (length p + tag_len q.level)))
  unfolding body_sent
  size_is = simp length-append (rw (cipher-long σ q o p, tag-long σ q o p))

  pub size-most : length (body_sent σ q o p) + 2 ≤ 127
  unfolding frame_len
  size-most = omega (arith, fits, size_is, aux-long q σ.own)

  pub size-least : 3 ≤ length (body_sent σ q o p)
  size-least = omega (arith, size_is, head-least (header_by σ.tables.settings q) w)

  aux-is : aux_m (security_of h) x ≡ length x
  unfolding header_by
  aux-is = ap (λ (s : ℕ). aux_m s x) (security-read (header_by σ.tables.settings q) w) ∙ aux-measured q σ.own r.keysource a.level a.keymode

  open_is : open_m (type_of h) o ≡ length o
  unfolding header_by
  open_is = ap (λ (k : ℕ). open_m k o) (type-read (header_by σ.tables.settings q) w) ∙ a.opens

  pub view-is : view (body_sent σ q o p) ≡ shown
  unfolding body_sent shown
  view-is =
      view-joined h x o (c ++ t) (head-measured (header_by σ.tables.settings q) w) aux-is open_is
      ∙ (λ i. record {
        size = length (h ++ (x ++ (o ++ (c ++ t))));
        cuts = record { head = length h; aux = length x; opens = length o };
        header = header_read (header_by σ.tables.settings q) w i;
        aux = x;
        opens = o;
      })

  pub level-is : level_of x ≡ q.level
  level-is = level-read q σ.own r.keysource a.level a.keymode

  pub private-is : private_len shown ≡ length p
  unfolding private_len shown open_end
  private-is = rw level-is (omega (arith, size_is))

  -- ---- statuses 5 and 7
  three : q.kind ≡ 2 → length (body_sent σ q o p) ≡ 3
  three e =
      let l : q.level ≡ 0 = bare-level σ.tables.settings q o p r ot a e in
      let lx : length x ≡ 0 = ap length (aux-none q σ.own l) in
      let lo : length o ≡ 0 = sym a.opens ∙ no-open q.kind o e in
      let lt : tag_len q.level ≡ 0 = ap tag_len l ∙ no-tag in
      omega (arith, size_is, bare-head σ.tables.settings q o p r ot a e, a.silent e)

  head-is : head_right shown.cuts shown.header shown.size ≡ true
  unfolding shown
  head-is =
      head-right σ.tables.settings q o p r ot a (record { head = length h; aux = length x; opens = length o }) (length (body_sent σ q o p))
      (omega (arith, size_is)) three

  bodied-is : bodied shown ≡ true
  unfolding bodied shown open_end header_by
  bodied-is =
      rw (level-is, le-leb (length h + length x + length o + tag_len q.level) (length (body_sent σ q o p)) (omega (arith, size_is))) a.pending

  legacy-is : not (eqb shown.header.security 1 && eqb shown.header.version 0) ≡ true
  unfolding shown header_by
  legacy-is = go (eqb q.level 0) (eqb q.version 0) a.legacy
    where
      go : (l v : Bool) → not (v && not l) ≡ true → not (eqb (bit (not l)) 1 && v) ≡ true
      go true v e = refl
      go false true e = e
      go false false e = refl

  -- ---- so it comes to filter and policies
  pub judged-is : (g : Tables) → judged g (with_fcs (body_sent σ q o p)) ≡ admission g (header_by σ.tables.settings q) x o
  unfolding judged shown
  judged-is g =
      rw (inner-with (body_sent σ q o p), right-with (body_sent σ q o p), view-is)
      (judge-whole g (length (with_fcs (body_sent σ q o p))) shown (omega (arith, length-with (body_sent σ q o p), size-least))
      (omega (arith, length-with (body_sent σ q o p), size-most)) head-is legacy-is bodied-is)
