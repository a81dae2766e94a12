-- Where the parts of a built frame stand: by their lengths. Assumes nothing.
use mathlib.Core.Path.{◌≡◌, refl, sym, ap, ◌∙◌}
use Prim.Native.Nat.{ℕ, ◌+◌, ◌≤◌}
use native.Mathlib.Omega.{arith}
use mathlib.Core.List.{List, ◌++◌, append_assoc}
use lib.ListN.{length, take, drop, length-append}
use lib.Seq.{take_at, drop_at, drop-drop}
use Rattle.meaning.specs.Octets.{part}
use Rattle.meaning.specs.Frame.{View, open_end, private_len}
use Rattle.meaning.specs.Fcs.{fcs}
use Rattle.meaning.specs.Records.{Store}
use Rattle.meaning.specs.Receive.{private_of}
use Rattle.meaning.specs.Build.{header_by, head_octets, aux_octets, frame_len, with_fcs}
use Rattle.meaning.specs.declared.Request.{Request}
use Rattle.demands.specs.Round.{Octets, Ranged}
use Rattle.demands.proofs.Asked.{Asked}
use Rattle.demands.proofs.Parts.{sealed_sent, body_sent, cipher-long}
use Rattle.demands.proofs.Frames as F

module _ (σ : Store) (q : Request) (o p : List ℕ) (r : Ranged q) (ot : Octets σ.tables.settings)
    (a : Asked σ.tables.settings q o p) (fits : frame_len σ.tables.settings q o p ≤ 127) where
  abbrev h : List ℕ
  h = head_octets (header_by σ.tables.settings q)

  abbrev x : List ℕ
  x = aux_octets q σ.own

  abbrev c : List ℕ
  c = (sealed_sent σ q o p).cipher

  abbrev t : List ℕ
  t = (sealed_sent σ q o p).tag

  abbrev shown : View
  shown = F.shown σ q o p r ot a fits

  regrouped : body_sent σ q o p ≡ (h ++ (x ++ o)) ++ (c ++ t)
  unfolding body_sent
  regrouped = simp append_assoc

  front-long : length (h ++ (x ++ o)) ≡ open_end shown.cuts
  unfolding open_end F.shown
  front-long = simp length-append (omega arith)

  pub front-is : take (open_end shown.cuts) (body_sent σ q o p) ≡ h ++ (x ++ o)
  front-is = ap (take (open_end shown.cuts)) regrouped ∙ take_at (h ++ (x ++ o)) (c ++ t) (open_end shown.cuts) front-long

  rest-is : drop (open_end shown.cuts) (body_sent σ q o p) ≡ c ++ t
  rest-is = ap (drop (open_end shown.cuts)) regrouped ∙ drop_at (h ++ (x ++ o)) (c ++ t) (open_end shown.cuts) front-long

  pub cipher-is : private_of shown (body_sent σ q o p) ≡ c
  unfolding private_of
  cipher-is = ap (take (private_len shown)) rest-is ∙ take_at c t (private_len shown) (cipher-long σ q o p ∙ sym (F.private-is σ q o p r ot a fits))

  pub tag-is : drop (open_end shown.cuts + private_len shown) (body_sent σ q o p) ≡ t
  tag-is =
      sym (drop-drop (private_len shown) (open_end shown.cuts) (body_sent σ q o p)) ∙ ap (drop (private_len shown)) rest-is
      ∙ drop_at c t (private_len shown) (cipher-long σ q o p ∙ sym (F.private-is σ q o p r ot a fits))

  -- the open payload in the whole frame
  pub opens-is : part (length h + length x) (length o) (with_fcs (body_sent σ q o p)) ≡ o
  unfolding with_fcs body_sent
  opens-is =
      rw (
        append_assoc h (x ++ (o ++ (c ++ t))) (fcs (body_sent σ q o p)),
        append_assoc x (o ++ (c ++ t)) (fcs (body_sent σ q o p)),
        append_assoc o (c ++ t) (fcs (body_sent σ q o p)),
        ← append_assoc h x (o ++ ((c ++ t) ++ fcs (body_sent σ q o p))),
        drop_at (h ++ x) (o ++ ((c ++ t) ++ fcs (body_sent σ q o p))) (length h + length x) (length-append h x),
      )
      (take_at o ((c ++ t) ++ fcs (body_sent σ q o p)) (length o) refl)
