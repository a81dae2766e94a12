-- Demand 3 holds. Two frames that pair up have the same division, so they are judged alike; where both reach the tag their verdicts agree;
-- so what is written differs at most in the private payload, and the sites stay alike. Then by induction over the lists. Assumes nothing.
use Rattle.std.specs.Prelude.{Ok, Err}
use mathlib.Core.Path.{◌≡◌, refl, sym, ap, ◌∙◌, subst}
use mathlib.Core.Logic.{◌⊎◌, inl, inr, ⊎_elim}
use Prim.Native.Nat.{ℕ, suc, ◌+◌, ◌-◌, ◌<◌, max}
use native.Mathlib.Nat.{le-max_left}
use native.Mathlib.Omega.{arith}
use mathlib.Core.Bool.{Bool, true, false, ◌&&◌}
use mathlib.Core.List.{List, [], ◌∷◌}
use mathlib.Core.Option.{none, some}
use lib.ListN.{length, get_or, take, drop, length-append, length-take, length-drop}
use lib.Dec.{leb, eqb}
use Rattle.meaning.specs.Octets.{pick, part, beside}
use Rattle.meaning.specs.Status.{number}
use Rattle.meaning.specs.Frame.{counter_of, View, view, cuts_of, open_end, private_len}
use Rattle.meaning.specs.Fcs.{inner, fcs_right}
use Rattle.meaning.specs.Records.{devices, Store, key_at, no_device}
use Rattle.meaning.specs.Site.{count_of, site_rule, tables_of, store_of}
use Rattle.meaning.specs.Cipher.{cipher}
use Rattle.meaning.specs.Ccm.{Opened}
use Rattle.meaning.specs.Receive.{
  Judged,
  judged,
  refusal,
  report,
  Raise,
  keep,
  raise,
  stored,
  raised_in,
  timely,
  Verdict,
  refuse,
  accept,
  private_of,
  opened,
  tagged,
  admit,
  settle,
  verdict,
  Outcome,
  outcome,
  write,
  received_valid,
  received,
}
use Rattle.meaning.specs.declared.Refusal.{Refusal}
use Rattle.meaning.specs.declared.Refusal.TheVariants.{Site, Room}
use Rattle.meaning.specs.declared.Passed.TheVariants.{Plain, Secure}
use Rattle.meaning.proofs.Lists.{take-pre, take-comm, drop-pre, drop_more, over}
use Rattle.meaning.proofs.Frame.{view-same, open-end}
use Rattle.meaning.proofs.Ccm.{length-text}
use Rattle.meaning.proofs.Ways.{secure-fits}
use Rattle.meaning.proofs.Sites.{rule-handles}
use Rattle.meaning.proofs.Raises.{raised-rule}
use Rattle.demands.specs.Secrecy.{AlikeSites, span, outside, tag_at, tag_seen, AlikeFrames, Paired, Agreed, Agree, Secret}
use Rattle.demands.proofs.Alike.{alike-broken, alike-rule, alike-tables, alike-counters, raised-alike}

-- ---- lengths
private-long : (v : View) (b : List ℕ) → v.size ≡ length b → length (private_of v b) ≡ private_len v
unfolding private_of private_len
private-long v b e = simp (length-take, length-drop) (omega arith)

opened-long : (k : List ℕ) (e : ℕ) (v : View) (b : List ℕ) → v.size ≡ length b → length (opened k e v b).text ≡ private_len v
unfolding opened
opened-long k e v b h = length-text (cipher k) _ _ _ _ _ ∙ private-long v b h

inner-long : (f : List ℕ) → length (inner f) ≡ length f - 2
unfolding inner
inner-long f = simp length-take (omega arith)

view-long : (b : List ℕ) → (view b).size ≡ length b
unfolding view
view-long b = refl

-- ---- equal octets outside private payload, tag and FCS: the same view
picked : (x y z : Bool) (a b c : ℕ)
    → (pick x a (pick y b (pick z c a)) ≡ b) ⊎ ((pick x a (pick y b (pick z c a)) ≡ c) ⊎ (pick x a (pick y b (pick z c a)) ≡ a))
picked true y z a b c = inr (inr refl)
picked false true z a b c = inl refl
picked false false true a b c = inr (inl refl)
picked false false false a b c = inr (inr refl)

span-cases : (status : ℕ) (f : List ℕ)
    → (span status f ≡ length f) ⊎ ((span status f ≡ length f - 2) ⊎ (span status f ≡ open_end (cuts_of (inner f))))
unfolding span
span-cases status f = picked (eqb status 0) (leb status 3) (leb status 7) _ _ _

pub span-open : (status : ℕ) (f : List ℕ) → status ≡ 0 → span status f ≡ open_end (cuts_of (inner f))
unfolding span
span-open status f e = rw e

module _ (f g : List ℕ) (l : length f ≡ length g) where
  inner-upto : (k : ℕ) → take k f ≡ take k g → take k (inner f) ≡ take k (inner g)
  unfolding inner
  inner-upto k e = take-comm k (length f - 2) f ∙ ap (take (length f - 2)) e ∙ take-comm (length f - 2) k g ∙ ap (λ (n : ℕ). take k (take (n - 2) g)) l

  inner-same : take (length f - 2) f ≡ take (length f - 2) g → inner f ≡ inner g
  unfolding inner
  inner-same e = e ∙ ap (λ (n : ℕ). take (n - 2) g) l

  view-open : take (open_end (cuts_of (inner f))) f ≡ take (open_end (cuts_of (inner f))) g → view (inner f) ≡ view (inner g)
  view-open e =
      view-same (inner f) (inner g) (inner-long f ∙ ap (λ (n : ℕ). n - 2) l ∙ sym (inner-long g))
      (rw (← open-end (inner f)) (inner-upto (open_end (cuts_of (inner f))) e))

  view-alike : (status : ℕ) → take (span status f) f ≡ take (span status f) g → view (inner f) ≡ view (inner g)
  view-alike status e = ⊎_elim whole (⊎_elim nearly (λ c. view-open (upto _ c))) (span-cases status f)
    where
      upto : (k : ℕ) → span status f ≡ k → take k f ≡ take k g
      upto k c = subst (λ (n : ℕ). take n f ≡ take n g) c e

      nearly : span status f ≡ length f - 2 → view (inner f) ≡ view (inner g)
      nearly c = ap view (inner-same (upto _ c))

      whole : span status f ≡ length f → view (inner f) ≡ view (inner g)
      whole c = ap view (inner-same (take-pre (length f) f g (upto _ c) (length f - 2) (omega arith)))

-- ---- two verdicts that differ at most in the private payload's octets
-- a device that is raised stands below n
abbrev Raises : ℕ → Raise → Type 0
Raises n keep = Unit {0}
Raises n (raise j d c) = d < n

data Near (v : View) (n : ℕ) : Verdict → Verdict → Type 0 where
  refusing : (r : Refusal) → Near v n (refuse r) (refuse r)
  accepting : (l d : ℕ) (p q : List ℕ) (r : Raise) → length p ≡ private_len v → length q ≡ private_len v → Raises n r
      → Near v n (accept (report v l d) p r) (accept (report v l d) q r)

module _ (v : View) (n : ℕ) where
  near-tagged : (c : Bool) (p q : List ℕ) (l d : ℕ) (r : Raise) → length p ≡ private_len v → length q ≡ private_len v → Raises n r
      → Near v n (tagged c p (report v l d) r) (tagged c q (report v l d) r)
  unfolding tagged
  near-tagged true p q l d r lp lq h = accepting l d p q r lp lq h
  near-tagged false p q l d r lp lq h = refusing _

  near-admit : (c : Bool) (w z : Opened) (l d : ℕ) (r : Raise) → (c ≡ true → w.right ≡ z.right)
      → length w.text ≡ private_len v → length z.text ≡ private_len v → Raises n r
      → Near v n (admit c w (report v l d) r) (admit c z (report v l d) r)
  unfolding admit
  near-admit false w z l d r e lw lz h = refusing _
  near-admit true w z l d r e lw lz h = rw (e refl) (near-tagged z.right w.text z.text l d r lw lz h)

tag-at : (σ : Store) (v : View) (b : List ℕ) (k j d : ℕ) → timely (stored σ.counters j d) (counter_of v.aux) ≡ true
    → tag_at σ v b (Ok (Secure k j d)) ≡ some (opened (key_at σ.keys k) (get_or σ.tables.devices d no_device).extended v b).right
unfolding tag_at
tag-at σ v b k j d e = rw e

near-settle : (σ τ : Store) (v : View) (n : ℕ) (b b' : List ℕ) (u : Judged)
    → σ.counters ≡ τ.counters → v.size ≡ length b → v.size ≡ length b'
    → ((k j d : ℕ) → u ≡ Ok (Secure k j d) → d < n)
    → ((x y : Bool) → tag_at σ v b u ≡ some x → tag_at τ v b' u ≡ some y → x ≡ y)
    → Near v n (settle σ v b u) (settle τ v b' u)
unfolding settle
near-settle σ τ v n b b' (Err r) c l l' h e = refusing r
near-settle σ τ v n b b' (Ok Plain) c l l' h e = accepting 0 0 _ _ keep (private-long v b l) (private-long v b' l') tt
near-settle σ τ v n b b' (Ok (Secure k j d)) c l l' h e =
    rw c
    (near-admit v n (timely (stored τ.counters j d) (counter_of v.aux)) _ _ _ _ _
    (λ t. e _ _ (tag-at σ v b k j d (rw c t)) (tag-at τ v b' k j d t))
    (opened-long _ _ v b l) (opened-long _ _ v b' l') (h k j d refl))

-- ---- what both write
-- two receivers between frames: m is the longest private payload accepted so far
pub record Standing (m : ℕ) (s t o p : List ℕ) : Type 0 where
  pub sites : AlikeSites s t
  pub rooms : length o ≡ length p
  pub outs : drop m o ≡ drop m p

kept-both : (s t : List ℕ) → AlikeSites s t → AlikeSites (raised_in keep s) (raised_in keep t)
unfolding raised_in
kept-both s t a = a

raised_both : (s t : List ℕ) (r : Raise) → site_rule s ≡ true → AlikeSites s t → Raises (count_of s devices) r → AlikeSites (raised_in r s) (raised_in r t)
raised_both s t keep rule a h = kept-both s t a
raised_both s t (raise j d c) rule a h = raised-alike s t rule a j d c h (raised-rule s rule j d c h)

open-same : (c : View) (f g : List ℕ) → take (open_end c.cuts) f ≡ take (open_end c.cuts) g
    → part (c.cuts.head + c.cuts.aux) c.cuts.opens f ≡ part (c.cuts.head + c.cuts.aux) c.cuts.opens g
unfolding open_end
open-same c f g e = drop-pre (c.cuts.head + c.cuts.aux) c.cuts.opens f g e

-- a refusal in both
both-refuse : (m : ℕ) (s t f g o p : List ℕ) (r : Refusal) → Standing m s t o p
    → Agreed (max m (refusal r).private) f g (outcome (refusal r) s o) (outcome (refusal r) t p)
unfolding refusal
both-refuse m s t f g o p r a = record {
  answers = refl;
  opens = refl;
  counters = alike-counters s t a.sites;
  sites = a.sites;
  rooms = a.rooms;
  outs = drop_more m _ o p a.outs (le-max_left m 0);
}

module _ (m : ℕ) (s t f g o p : List ℕ) (v : View) (rule : site_rule s ≡ true) (a : Standing m s t o p) where
  -- an acceptance in both
  both-accept : (l d : ℕ) (q q' : List ℕ) (r : Raise) → length q ≡ private_len v → length q' ≡ private_len v → Raises (count_of s devices) r
      → take (open_end v.cuts) f ≡ take (open_end v.cuts) g
      → Agreed (max m (report v l d).private) f g (outcome (report v l d) (raised_in r s) (beside q o))
      (outcome (report v l d) (raised_in r t) (beside q' p))
  unfolding report beside
  both-accept l d q q' r lq lq' h e = record {
    answers = refl;
    opens = open-same v f g e;
    counters = alike-counters _ _ (raised_both s t r rule a.sites h);
    sites = raised_both s t r rule a.sites h;
    rooms = simp (length-append, length-drop) (rw (lq, lq', a.rooms));
    outs = over q o (max m (private_len v)) (omega (arith, lq))
        ∙ drop_more m _ o p a.outs (le-max_left m (private_len v))
        ∙ sym (over q' p (max m (private_len v)) (omega (arith, lq')));
  }

  stepped : (x y : Verdict) → Near v (count_of s devices) x y → ((write s o x).answer.status ≡ 0 → take (open_end v.cuts) f ≡ take (open_end v.cuts) g)
      → Agreed (max m (write s o x).answer.private) f g (write s o x) (write t p y)
  unfolding write report
  stepped x y (refusing r) e = both-refuse m s t f g o p r a
  stepped x y (accepting l d q q' r lq lq' h) e = both-accept l d q q' r lq lq' h (e refl)

-- ---- one pair
module _ (s f o : List ℕ) where
  as-valid : site_rule s ≡ true → received s f o ≡ write s o (verdict (store_of s) (length o) f)
  unfolding received received_valid
  as-valid e = rw e

  as-broken : site_rule s ≡ false → received s f o ≡ outcome (refusal Site) s o
  unfolding received
  as-broken e = rw e

  tag-seen : site_rule s ≡ true → leb 127 (length o) ≡ true
      → tag_seen s f o ≡ tag_at (store_of s) (view (inner f)) (inner f) (judged (store_of s).tables f)
  unfolding tag_seen
  tag-seen e r = rw (e, r)

judged-same : (s t f g : List ℕ) → tables_of s ≡ tables_of t → length f ≡ length g → fcs_right f ≡ fcs_right g
    → view (inner f) ≡ view (inner g) → judged (store_of s).tables f ≡ judged (store_of t).tables g
unfolding judged store_of
judged-same s t f g et l c ev = rw (et, l, c, ev)

module _ (m : ℕ) (s t f g o p : List ℕ) (st : Standing m s t o p) (a : AlikeFrames s t f g o p) where
  pub same_view : view (inner f) ≡ view (inner g)
  unfolding outside
  same_view = view-alike f g a.lengths (received s f o).answer.status a.octets

  same-open : (received s f o).answer.status ≡ 0 → take (open_end (view (inner f)).cuts) f ≡ take (open_end (view (inner f)).cuts) g
  unfolding outside view
  same-open e = subst (λ (n : ℕ). take n f ≡ take n g) (span-open (received s f o).answer.status f e) a.octets

  module _ (rule : site_rule s ≡ true) where
    same-judged : judged (store_of s).tables f ≡ judged (store_of t).tables g
    same-judged = judged-same s t f g (alike-tables s t rule st.sites) a.lengths a.checks same_view

    named : (k j d : ℕ) → judged (store_of s).tables f ≡ Ok (Secure k j d) → d < count_of s devices
    unfolding store_of
    named k j d e =
        let w = (secure-fits (store_of s).tables f k j d e).1 in
        rw w.device (rule-handles s rule j w.handle-below)

    abbrev settled : Verdict
    settled = settle (store_of s) (view (inner f)) (inner f) (judged (store_of s).tables f)

    abbrev settled' : Verdict
    settled' = settle (store_of t) (view (inner g)) (inner g) (judged (store_of t).tables g)

    -- where there is room for both
    near-roomy : leb 127 (length o) ≡ true → Near (view (inner f)) (count_of s devices) settled settled'
    near-roomy r =
        let r' : leb 127 (length p) ≡ true = rw (← st.rooms) r in
        rw (← same_view, ← same-judged)
        (near-settle (store_of s) (store_of t) (view (inner f)) (count_of s devices) (inner f) (inner g) (judged (store_of s).tables f)
        (alike-counters s t st.sites) (view-long (inner f)) (ap (λ (v : View). v.size) same_view ∙ view-long (inner g)) named
        (λ x y i k. a.tags x y (tag-seen s f o rule r ∙ i)
        (tag-seen t g p (alike-rule s t rule st.sites) r' ∙ rw (← same_view, ← same-judged) k)))

    near : Near (view (inner f)) (count_of s devices) (verdict (store_of s) (length o) f) (verdict (store_of t) (length p) g)
    unfolding verdict
    near = rw (← st.rooms) (by (leb 127 (length o)) refl)
      where
        by : (c : Bool) → leb 127 (length o) ≡ c → Near (view (inner f)) (count_of s devices) (pick c settled (refuse Room)) (pick c settled' (refuse Room))
        by true e = near-roomy e
        by false e = refusing Room

    valid : Agreed (max m (received s f o).answer.private) f g (received s f o) (received t g p)
    valid =
        rw (as-valid s f o rule, as-valid t g p (alike-rule s t rule st.sites))
        (stepped m s t f g o p (view (inner f)) rule st _ _ near (λ e. same-open (ap (λ (x : Outcome). x.answer.status) (as-valid s f o rule) ∙ e)))

  broken : site_rule s ≡ false → Agreed (max m (received s f o).answer.private) f g (received s f o) (received t g p)
  broken e =
      rw (as-broken s f o e, as-broken t g p (ap site_rule (sym (alike-broken s t e st.sites)) ∙ e))
      (both-refuse m s t f g o p Site st)

  pub one : Agreed (max m (received s f o).answer.private) f g (received s f o) (received t g p)
  one = by (site_rule s) refl
    where
      by : (c : Bool) → site_rule s ≡ c → Agreed (max m (received s f o).answer.private) f g (received s f o) (received t g p)
      by true e = valid e
      by false e = broken e

-- ---- all pairs
all : (m : ℕ) (s t o p : List ℕ) (fs gs : List (List ℕ)) → Standing m s t o p → Paired s t o p fs gs → Agree m s t o p fs gs
all m s t o p [] [] st ps = tt
all m s t o p [] (g ∷ gs) st ps = ps
all m s t o p (f ∷ fs) [] st ps = ps
all m s t o p (f ∷ fs) (g ∷ gs) st ps =
    let r : Agreed (max m (received s f o).answer.private) f g (received s f o) (received t g p) = one m s t f g o p st ps.0 in
    (r, all (max m (received s f o).answer.private) _ _ _ _ fs gs (record { sites = r.sites; rooms = r.rooms; outs = r.outs }) ps.1)

pub secrecy : Secret
unfolding Secret
secrecy s t o fs gs a ps = all 0 s t o o fs gs (record { sites = a; rooms = refl; outs = refl }) ps

-- ---- the tag's verdict shows in the status
module _ (s o : List ℕ) (v : View) (l d : ℕ) (r : Raise) where
  shown-tagged : (q : List ℕ) (x : Bool) → (write s o (tagged x q (report v l d) r)).answer.status ≡ pick x 0 15
  unfolding write tagged report refusal number
  shown-tagged q true = refl
  shown-tagged q false = refl

  shown-admit : (c : Bool) (w : Opened) (x : Bool) → pick c (some w.right) none ≡ some x
      → (write s o (admit c w (report v l d) r)).answer.status ≡ pick x 0 15
  unfolding admit
  shown-admit true w x e =
      let z : w.right ≡ x = cc in
      subst (λ (y : Bool). (write s o (tagged y w.text (report v l d) r)).answer.status ≡ pick x 0 15) (sym z) (shown-tagged w.text x)
  shown-admit false w x e = absurd (let z : ◌≡◌ {A = ℕ} 0 1 = cc in omega arith)

shown-settle : (σ : Store) (v : View) (s o b : List ℕ) (u : Judged) (x : Bool) → tag_at σ v b u ≡ some x
    → (write s o (settle σ v b u)).answer.status ≡ pick x 0 15
unfolding tag_at settle
shown-settle σ v s o b (Err r) x e = absurd (let z : ◌≡◌ {A = ℕ} 0 1 = cc in omega arith)
shown-settle σ v s o b (Ok Plain) x e = absurd (let z : ◌≡◌ {A = ℕ} 0 1 = cc in omega arith)
shown-settle σ v s o b (Ok (Secure k j d)) x e = shown-admit s o v _ (suc d) _ (timely (stored σ.counters j d) (counter_of v.aux)) _ x e

pub tag-shown : (s f o : List ℕ) (x : Bool) → tag_seen s f o ≡ some x → (received s f o).answer.status ≡ pick x 0 15
unfolding tag_seen received received_valid verdict
tag-shown s f o x = by (site_rule s) (leb 127 (length o))
  where
    by : (c d : Bool)
        → pick (c && d) (tag_at (store_of s) (view (inner f)) (inner f) (judged (store_of s).tables f)) none ≡ some x
        → (pick c (write s o (pick d (settle (store_of s) (view (inner f)) (inner f) (judged (store_of s).tables f)) (refuse Room)))
        (outcome (refusal Site) s o)).answer.status ≡ pick x 0 15
    by true true e = shown-settle (store_of s) (view (inner f)) s o (inner f) _ x e
    by true false e = absurd (let z : ◌≡◌ {A = ℕ} 0 1 = cc in omega arith)
    by false d e = absurd (let z : ◌≡◌ {A = ℕ} 0 1 = cc in omega arith)

-- so the tags agree where the statuses do
pub tags-by-status : (s t f g o p : List ℕ) → (received s f o).answer.status ≡ (received t g p).answer.status
    → (x y : Bool) → tag_seen s f o ≡ some x → tag_seen t g p ≡ some y → x ≡ y
tags-by-status s t f g o p e x y i k = by x y (sym (tag-shown s f o x i) ∙ e ∙ tag-shown t g p y k)
  where
    by : (x y : Bool) → ◌≡◌ {A = ℕ} (pick x 0 15) (pick y 0 15) → x ≡ y
    by true true h = refl
    by false false h = refl
    by true false h = absurd (omega arith)
    by false true h = absurd (omega arith)
