-- A frame's answer, where the site holds its rules and where none does.
-- Assumes nothing.
use mathlib.Core.Path.{◌≡◌, refl, ap, ◌∙◌}
use mathlib.Core.Bool.{true}
use mathlib.Core.List.{List}
use Rattle.std.specs.Prelude.{ℕ, Option, None, Some, Ok, Err}
use Rattle.meaning.specs.Site.{site_rule}
use Rattle.meaning.specs.Loading.{empty_site}
use Rattle.meaning.specs.Receive.{Outcome, outcome, refusal, answer_of, received_valid, received}
use Rattle.meaning.specs.declared.Accepted.{Accepted}
use Rattle.meaning.specs.declared.Refusal.{Refusal}
use Rattle.meaning.specs.declared.Refusal.TheVariants.{Site}
use Rattle.meaning.proofs.Bridges.{empty-broken}
use Rattle.site.specs.declared.fields.Site.{Site as Kept}
use Rattle.frame_log.specs.Buffers.{SameSite, Answered}

-- ---- the reference that the site is kept behind
pub same-site : (a : Option Kept) → SameSite a a
same-site None = tt
same-site (Some s) = refl

pub same-then : (a b c : Option Kept) → SameSite a b → SameSite b c → SameSite a c
same-then None None c p q = q
same-then None (Some t) c p q = absurd p
same-then (Some s) None c p q = absurd p
same-then (Some s) (Some t) None p q = absurd q
same-then (Some s) (Some t) (Some u) p q = q ∙ p

-- ---- what is answered
module _ (s f o s' o' : List ℕ) (h : site_rule s ≡ true) where
  by-rule : received_valid s f o ≡ received s f o
  unfolding received
  by-rule = rw h

  pub answered-ok : (a : Accepted) → outcome (answer_of (Ok a)) s' o' ≡ received_valid s f o → Answered s f o (Ok a.private) s' o'
  answered-ok a e =
      let q : outcome (answer_of (Ok a)) s' o' ≡ received s f o = e ∙ by-rule in
      record {
        status = ap (λ (u : Outcome). u.answer.status) q;
        private = ap (λ (u : Outcome). u.answer.private) q;
        site = ap (λ (u : Outcome). u.site) q;
        out = ap (λ (u : Outcome). u.out) q;
      }

  pub answered-err : (r : Refusal) → outcome (refusal r) s' o' ≡ received_valid s f o → Answered s f o (Err r) s' o'
  unfolding refusal
  answered-err r e =
      let q : outcome (refusal r) s' o' ≡ received s f o = e ∙ by-rule in
      record {
        status = ap (λ (u : Outcome). u.answer.status) q;
        private = ap (λ (u : Outcome). u.answer.private) q;
        site = ap (λ (u : Outcome). u.site) q;
        out = ap (λ (u : Outcome). u.out) q;
      }

pub answered-none : (f o : List ℕ) → Answered empty_site f o (Err Site) empty_site o
unfolding received refusal
answered-none f o = record { status = rw empty-broken; private = rw empty-broken; site = rw empty-broken; out = rw empty-broken }
