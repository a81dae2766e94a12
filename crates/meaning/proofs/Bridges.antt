-- The bridge: what a file loads to has the length of a site, keeps the site's rules and stands for the file's store. Assumes nothing.
use mathlib.Core.Path.{◌≡◌, refl, sym, ap, ◌∙◌}
use Prim.Native.Nat.{ℕ, zero, suc, ◌*◌, ◌≤◌, ◌<◌}
use native.Mathlib.Decide.{dec_lt}
use native.Mathlib.Omega.{arith}
use mathlib.Core.Bool.{Bool, true, false}
use mathlib.Core.List.{List}
use lib.ListN.{length, length-replicate, get_or-replicate}
use borrow.Author.Tests.{eq-eqb, ne_eqb}
use Rattle.meaning.specs.Octets.{le_at}
use Rattle.meaning.specs.Status.{number}
use Rattle.meaning.specs.Records.{settings, devices, keys, kinds, width_of, limit_of, count_right, store_rule}
use Rattle.meaning.specs.File.{file_count, file_body, contents_right, file_tables, file_store, file_rule}
use Rattle.meaning.specs.Site.{site_len, count_of, body, layout_right, settings_of, tables_of, store_of, site_rule}
use Rattle.meaning.specs.Loading.{with_body, empty_site, site_with, site_from, Loaded, bridged, loaded, site_of}
use Rattle.meaning.proofs.Tests.{and-on}
use Rattle.meaning.proofs.Scan.{every-same}
use Rattle.meaning.proofs.Records.{count-in, tables-same}
use Rattle.meaning.proofs.Regions.{header-inside}
use Rattle.meaning.proofs.Sites.{rule-one}
use Rattle.meaning.proofs.Files.{contents-limit, contents-least, length-file, file-contents, file-store}
use Rattle.meaning.proofs.Written.{with-length, with-count, with-other-count, with-body, with-other-body}

-- ---- the length, of any bodies
pub empty-length : length empty_site ≡ site_len
unfolding empty_site
empty-length = length-replicate site_len 0

pub site-with-length : (b : ℕ → List ℕ) (n : ℕ) → length (site_with b n) ≡ site_len
unfolding site_with
site-with-length b zero = empty-length
site-with-length b (suc n) = with-length (site_with b n) n (b n) ∙ site-with-length b n

pub from-length : (f : List ℕ) → length (site_from f) ≡ site_len
unfolding site_from
from-length f = site-with-length (file_body f) kinds

-- ---- the empty site
empty-count : (k : ℕ) → k < kinds → count_of empty_site k ≡ 0
unfolding count_of empty_site le_at
empty-count k h =
    rw (
      get_or-replicate {A = ℕ} site_len (2 * k) 0 0 (omega (arith, header-inside)),
      get_or-replicate {A = ℕ} site_len (suc (2 * k)) 0 0 (omega (arith, header-inside)),
    )

-- it has no settings
pub empty-broken : site_rule empty_site ≡ false
empty-broken = go (site_rule empty_site) refl
  where
    go : (x : Bool) → site_rule empty_site ≡ x → x ≡ false
    go true e = absurd (omega (arith, rule-one empty_site e, empty-count settings (omega arith)))
    go false e = refl

-- ---- how far loading has come
record Come (f : List ℕ) (n : ℕ) (m : List ℕ) : Type 0 where
  done : (j : ℕ) → j < n → count_of m j ≡ file_count f j
  rest : (j : ℕ) → j < kinds → n ≤ j → count_of m j ≡ 0
  bodies : (j : ℕ) → j < n → body m j ≡ file_body f j

module _ (f : List ℕ) (right : contents_right f ≡ true) where
  come-more : (n : ℕ) (m : List ℕ) → n < kinds → length m ≡ site_len → Come f n m → Come f (suc n) (with_body m n (file_body f n))
  come-more n m h long w =
      let b : List ℕ = file_body f n in
      let whole : length b ≡ width_of n * file_count f n = length-file f right n h in
      let few : file_count f n ≤ limit_of n = contents-limit f right n h in
      record {
        done = λ j l. count j l (dec_lt j n);
        rest = λ j l g. with-other-count m n b (file_count f n) long h whole few j l (λ e. omega arith) ∙ w.rest j l (omega arith);
        bodies = λ j l. its j l (dec_lt j n);
      }
    where
      count : (j : ℕ) → j < suc n → Dec (j < n) → count_of (with_body m n (file_body f n)) j ≡ file_count f j
      count j l (yes z) =
          with-other-count m n (file_body f n) (file_count f n) long h (length-file f right n h) (contents-limit f right n h) j (omega arith) (λ e. omega arith)
          ∙ w.done j z
      count j l (no z) =
          let e : j ≡ n = omega arith in
          rw e (with-count m n (file_body f n) (file_count f n) long h (length-file f right n h) (contents-limit f right n h))

      its : (j : ℕ) → j < suc n → Dec (j < n) → body (with_body m n (file_body f n)) j ≡ file_body f j
      its j l (yes z) =
          with-other-body m n (file_body f n) (file_count f n) long h (length-file f right n h) (contents-limit f right n h) j (omega arith)
          (λ e. omega arith) (rw (w.done j z) (contents-limit f right j (omega arith)))
          ∙ w.bodies j z
      its j l (no z) =
          let e : j ≡ n = omega arith in
          rw e (with-body m n (file_body f n) (file_count f n) long h (length-file f right n h) (contents-limit f right n h))

  come : (n : ℕ) → n ≤ kinds → Come f n (site_with (file_body f) n)
  unfolding site_with
  come zero h =
      record {
        done = λ j l. absurd (omega arith);
        rest = λ j l g. empty-count j l;
        bodies = λ j l. absurd (omega arith);
      }
  come (suc n) h = come-more n (site_with (file_body f) n) (omega arith) (site-with-length (file_body f) n) (come n (omega arith))

  pub from-count : (k : ℕ) → k < kinds → count_of (site_from f) k ≡ file_count f k
  unfolding site_from
  from-count k h = (come kinds (omega arith)).done k h

  pub from-body : (k : ℕ) → k < kinds → body (site_from f) k ≡ file_body f k
  unfolding site_from
  from-body k h = (come kinds (omega arith)).bodies k h

  from-tables : tables_of (site_from f) ≡ file_tables f
  unfolding tables_of settings_of file_tables
  from-tables = tables-same (body (site_from f)) (file_body f) (λ k h n. from-body k h)

  store-from : store_of (site_from f) ≡ file_store f
  unfolding store_of file_store
  store-from = rw (from-tables, from-body settings (omega arith), from-body devices (omega arith), from-body keys (omega arith))

  from-layout : layout_right (site_from f) ≡ true
  unfolding layout_right
  from-layout =
      and-on _ _ (eq-eqb _ _ (from-length f))
      (every-same (λ k. count_right k (count_of (site_from f) k)) (λ k. true) kinds
      (λ k h. rw (from-count k h) (count-in k (file_count f k) (contents-least f right k h) (contents-limit f right k h))))

-- ---- the bridge
module _ (f : List ℕ) (rule : file_rule f ≡ true) where
  pub from-store : store_of (site_from f) ≡ file_store f
  from-store = store-from f (file-contents f rule)

  pub from-rule : site_rule (site_from f) ≡ true
  unfolding site_rule
  from-rule = and-on _ _ (from-layout f (file-contents f rule)) (ap store_rule from-store ∙ file-store f rule)

-- ---- the three answers of loading
module _ (f s : List ℕ) where
  pub load-refused : file_rule f ≡ false → loaded f s ≡ bridged 1 s
  unfolding loaded number
  load-refused e = rw e

  pub load-room : file_rule f ≡ true → (length s ≡ site_len → ⊥) → loaded f s ≡ bridged 2 s
  unfolding loaded number
  load-room e n = rw (e, ne_eqb (length s) site_len n)

  pub load-done : file_rule f ≡ true → length s ≡ site_len → loaded f s ≡ bridged 0 (site_from f)
  unfolding loaded
  load-done e l = rw (e, eq-eqb (length s) site_len l)

-- ---- loading into zeros
pub site-of : (f : List ℕ) → file_rule f ≡ true → site_of f ≡ site_from f
unfolding site_of
site-of f e = ap (λ (x : Loaded). x.site) (load-done f empty_site e empty-length)

pub no-site-of : (f : List ℕ) → file_rule f ≡ false → site_of f ≡ empty_site
unfolding site_of
no-site-of f e = ap (λ (x : Loaded). x.site) (load-refused f empty_site e)

-- afterwards the buffer is a site exactly where the file keeps its rules
pub site-of-rule : (f : List ℕ) → site_rule (site_of f) ≡ file_rule f
site-of-rule f = go (file_rule f) refl
  where
    go : (x : Bool) → file_rule f ≡ x → site_rule (site_of f) ≡ file_rule f
    go true e = ap site_rule (site-of f e) ∙ from-rule f e ∙ sym e
    go false e = ap site_rule (no-site-of f e) ∙ empty-broken ∙ sym e

pub site-of-store : (f : List ℕ) → file_rule f ≡ true → store_of (site_of f) ≡ file_store f
site-of-store f e = ap store_of (site-of f e) ∙ from-store f e
