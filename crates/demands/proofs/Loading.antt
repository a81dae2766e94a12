-- Loading gives one listed status, a refusal changes nothing, and a success is a site with the file's store: by the two tests. Alike files load to
-- alike sites. Assumes nothing.
use mathlib.Core.Path.{◌≡◌, refl, sym, ap, ◌∙◌}
use Prim.Native.Nat.{ℕ}
use native.Mathlib.Omega.{arith}
use mathlib.Core.Bool.{Bool, true, false}
use mathlib.Core.List.{List}
use lib.ListN.{length}
use lib.Dec.{eqb}
use borrow.Author.Tests.{eqb-true, eqb-false, eq-eqb, ne_eqb}
use Rattle.meaning.specs.File.{file_rule}
use Rattle.meaning.specs.Site.{site_len}
use Rattle.meaning.specs.Loading.{empty_site, site_from, Loaded, bridged, loaded, site_of}
use Rattle.meaning.proofs.Bridges.{from-store, from-rule, load-refused, load-room, load-done}
use Rattle.demands.specs.Secrecy.{AlikeSites}
use Rattle.demands.specs.Loading.{AlikeFiles, Loads, LoadsAlike}
use Rattle.demands.proofs.Files.{files-rule, from-alike, files-broken}

-- ---- one file
module _ (f s : List ℕ) where
  loads-not : file_rule f ≡ false → Loads f s
  loads-not e =
      let x : loaded f s ≡ bridged 1 s = load-refused f s e in
      record {
        listed = rw (x, e);
        unchanged = λ n. rw x;
        ruled = λ z. absurd (omega (arith, rw x at z));
        stored = λ z. absurd (omega (arith, rw x at z));
      }

  loads-none : file_rule f ≡ true → (length s ≡ site_len → ⊥) → Loads f s
  loads-none e l =
      let x : loaded f s ≡ bridged 2 s = load-room f s e l in
      record {
        listed = rw (x, e, ne_eqb (length s) site_len l);
        unchanged = λ n. rw x;
        ruled = λ z. absurd (omega (arith, rw x at z));
        stored = λ z. absurd (omega (arith, rw x at z));
      }

  loads-all : file_rule f ≡ true → length s ≡ site_len → Loads f s
  loads-all e l =
      let x : loaded f s ≡ bridged 0 (site_from f) = load-done f s e l in
      record {
        listed = rw (x, e, eq-eqb (length s) site_len l);
        unchanged = λ n. absurd (n (rw x));
        ruled = λ z. rw x (from-rule f e);
        stored = λ z. rw x (from-store f e);
      }

  pub loads : Loads f s
  loads = by (file_rule f) refl (eqb (length s) site_len) refl
    where
      by : (c : Bool) → file_rule f ≡ c → (d : Bool) → eqb (length s) site_len ≡ d → Loads f s
      by false e d l = loads-not e
      by true e false l = loads-none e (eqb-false (length s) site_len l)
      by true e true l = loads-all e (eqb-true (length s) site_len l)

-- ---- two alike files
abbrev Same : Loaded → Loaded → Type 0
Same x y = (x.status ≡ y.status) × AlikeSites x.site y.site

module _ (f g s t : List ℕ) (a : AlikeFiles f g) (b : AlikeSites s t) where
  same-not : file_rule f ≡ false → Same (loaded f s) (loaded g t)
  same-not e = rw (load-refused f s e, load-refused g t (ap file_rule (sym (files-broken f g e a)) ∙ e)) (refl, b)

  same-none : file_rule f ≡ true → (length s ≡ site_len → ⊥) → Same (loaded f s) (loaded g t)
  same-none e l = rw (load-room f s e l, load-room g t (files-rule f g e a) (λ z. l (b.lengths ∙ z))) (refl, b)

  same-all : file_rule f ≡ true → length s ≡ site_len → Same (loaded f s) (loaded g t)
  same-all e l = rw (load-done f s e l, load-done g t (files-rule f g e a) (sym b.lengths ∙ l)) (refl, from-alike f g e a)

  same : Same (loaded f s) (loaded g t)
  same = by (file_rule f) refl (eqb (length s) site_len) refl
    where
      by : (c : Bool) → file_rule f ≡ c → (d : Bool) → eqb (length s) site_len ≡ d → Same (loaded f s) (loaded g t)
      by false e d l = same-not e
      by true e false l = same-none e (eqb-false (length s) site_len l)
      by true e true l = same-all e (eqb-true (length s) site_len l)

pub loads-alike : LoadsAlike
unfolding LoadsAlike
loads-alike f g s t a b = same f g s t a b

-- loaded into zeros
pub sites-of : (f g : List ℕ) → AlikeFiles f g → AlikeSites (site_of f) (site_of g)
unfolding site_of LoadsAlike
sites-of f g a = (loads-alike f g empty_site empty_site a (record { lengths = refl; before = refl; after = refl })).1
