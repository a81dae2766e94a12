-- Honest runs meet demand 3's premise: two frames built for one request by senders that are alike, with private payloads of one length, pair up
-- wherever both are accepted, whatever the keys, at every level. Their open octets come from request and settings alone. Assumes nothing.
use mathlib.Core.Path.{◌≡◌, refl, sym, ap, ◌∙◌}
use Prim.Native.Nat.{ℕ, ◌+◌, ◌≤◌}
use native.Mathlib.Omega.{arith}
use mathlib.Core.Bool.{true}
use mathlib.Core.List.{List, ◌++◌, append_assoc}
use lib.ListN.{length, take, length-append}
use lib.Seq.{take_at}
use Rattle.meaning.specs.Frame.{tag_len, View, view, cuts_of, open_end}
use Rattle.meaning.specs.Fcs.{inner, fcs, fcs_right}
use Rattle.meaning.specs.Records.{Store}
use Rattle.meaning.specs.Site.{store_of}
use Rattle.meaning.specs.Receive.{Judged, Outcome, received}
use Rattle.meaning.specs.Build.{header_by, head_octets, aux_octets, with_fcs, frame_len}
use Rattle.meaning.specs.declared.Request.{Request}
use Rattle.demands.specs.Round.{Octets, Ranged, Sent, frame_sent, Taken, report_of}
use Rattle.demands.specs.Secrecy.{AlikeSites, outside, AlikeFrames}
use Rattle.demands.proofs.Asked.{Asked, asked}
use Rattle.demands.proofs.Parts.{sealed_sent, body_sent, cipher-long, tag-long}
use Rattle.demands.proofs.Frames.{length-with, inner-with, right-with, shown, view-is}
use Rattle.demands.proofs.Made.{Making, sent}
use Rattle.demands.proofs.Round.{settings-octets, comes-back}
use Rattle.demands.proofs.Alike.{alike-settings, alike-own}
use Rattle.demands.proofs.Secrecy.{span-open, tags-by-status}

-- header, security header and open payload
unfoldable front : Store → Request → List ℕ → List ℕ
front σ q o = head_octets (header_by σ.tables.settings q) ++ (aux_octets q σ.own ++ o)

front_same : (σ τ : Store) (q : Request) (o : List ℕ) → σ.tables.settings ≡ τ.tables.settings → σ.own ≡ τ.own → front σ q o ≡ front τ q o
unfolding front
front_same σ τ q o e c = rw (e, c)

module _ (σ : Store) (q : Request) (o p : List ℕ) where
  front-first : with_fcs (body_sent σ q o p)
      ≡ front σ q o ++ (((sealed_sent σ q o p).cipher ++ (sealed_sent σ q o p).tag) ++ fcs (body_sent σ q o p))
  unfolding front with_fcs body_sent
  front-first = simp append_assoc

  long : length (with_fcs (body_sent σ q o p)) ≡ length (front σ q o) + (length p + tag_len q.level + 2)
  unfolding front body_sent
  long =
      length-with (body_sent σ q o p)
      ∙ simp length-append (rw (cipher-long σ q o p, tag-long σ q o p) (omega arith))

  module _ (r : Ranged q) (ot : Octets σ.tables.settings) (a : Asked σ.tables.settings q o p)
      (fits : frame_len σ.tables.settings q o p ≤ 127) where
    cuts-are : cuts_of (body_sent σ q o p) ≡ (shown σ q o p r ot a fits).cuts
    unfolding view
    cuts-are = ap (λ (v : View). v.cuts) (view-is σ q o p r ot a fits)

    ends : open_end (cuts_of (inner (with_fcs (body_sent σ q o p)))) ≡ length (front σ q o)
    unfolding front open_end shown
    ends = ap (λ (b : List ℕ). open_end (cuts_of b)) (inner-with (body_sent σ q o p)) ∙ ap open_end cuts-are ∙ sym (simp length-append (omega arith))

-- a frame that was sent
module _ (s : List ℕ) (q : Request) (o p out : List ℕ) (z : Sent s q o p out) where
  made : Making (store_of s) q o p (frame_sent s q o p out)
  made = sent s q o p out z.success

  sent-long : length (frame_sent s q o p out) ≡ length (front (store_of s) q o) + (length p + tag_len q.level + 2)
  sent-long = ap length made.is ∙ long (store_of s) q o p

  sent-right : fcs_right (frame_sent s q o p out) ≡ true
  sent-right = ap fcs_right made.is ∙ right-with (body_sent (store_of s) q o p)

  sent-ends : open_end (cuts_of (inner (frame_sent s q o p out))) ≡ length (front (store_of s) q o)
  sent-ends =
      ap (λ (f : List ℕ). open_end (cuts_of (inner f))) made.is
      ∙ ends (store_of s) q o p z.ranged (settings-octets s z.octets) (asked (store_of s).tables.settings q o p made.right) made.fits

  sent_front : take (length (front (store_of s) q o)) (frame_sent s q o p out) ≡ front (store_of s) q o
  sent_front = ap (take (length (front (store_of s) q o))) (made.is ∙ front-first (store_of s) q o p) ∙ take_at (front (store_of s) q o) _ _ refl

  -- it is accepted where it is taken
  taken-accepted : (r a : List ℕ) (g : Judged) → Taken s q o r a g → (received r (frame_sent s q o p out) a).answer.status ≡ 0
  unfolding report_of
  taken-accepted r a g h = ap (λ (x : Outcome). x.answer.status) (comes-back s q o p out z r a g h).whole

module _ (s t : List ℕ) (q : Request) (o p p' out out' : List ℕ) (z : Sent s q o p out) (z' : Sent t q o p' out')
    (alike : AlikeSites s t) (l : length p ≡ length p') where
  fronts : front (store_of s) q o ≡ front (store_of t) q o
  fronts = front_same (store_of s) (store_of t) q o (alike-settings s t alike) (alike-own s t alike)

  same-long : length (frame_sent s q o p out) ≡ length (frame_sent t q o p' out')
  same-long = sent-long s q o p out z ∙ rw (fronts, l) (sym (sent-long t q o p' out' z'))

  same-front : take (length (front (store_of s) q o)) (frame_sent s q o p out) ≡ take (length (front (store_of s) q o)) (frame_sent t q o p' out')
  same-front = sent_front s q o p out z ∙ fronts ∙ sym (rw fronts (sent_front t q o p' out' z'))

  -- at receivers r and u with outputs a and b
  pub honest-pair : (r u a b : List ℕ) → (received r (frame_sent s q o p out) a).answer.status ≡ 0
      → (received u (frame_sent t q o p' out') b).answer.status ≡ 0
      → AlikeFrames r u (frame_sent s q o p out) (frame_sent t q o p' out') a b
  unfolding outside
  honest-pair r u a b e e' =
      record {
        lengths = same-long;
        octets = rw (span-open (received r (frame_sent s q o p out) a).answer.status (frame_sent s q o p out) e, sent-ends s q o p out z) same-front;
        checks = sent-right s q o p out z ∙ sym (sent-right t q o p' out' z');
        tags = tags-by-status r u (frame_sent s q o p out) (frame_sent t q o p' out') a b (e ∙ sym e');
      }

  -- so where both are taken, as demand 2 has it
  pub taken-pair : (r u a b : List ℕ) (g g' : Judged) → Taken s q o r a g → Taken t q o u b g'
      → AlikeFrames r u (frame_sent s q o p out) (frame_sent t q o p' out') a b
  taken-pair r u a b g g' h h' = honest-pair r u a b (taken-accepted s q o p out z r a g h) (taken-accepted t q o p' out' z' u b g' h')
