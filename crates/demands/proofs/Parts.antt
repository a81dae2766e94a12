-- The parts of a built frame, with and without security at once, and their lengths: at level 0 the private payload stands as it is, with an empty tag.
-- Assumes nothing.
use mathlib.Core.Path.{◌≡◌, refl, sym, ap, ◌∙◌}
use mathlib.Core.Logic.{◌≢◌}
use Prim.Native.Nat.{ℕ}
use mathlib.Core.Bool.{Bool, true, false}
use mathlib.Core.List.{List, [], ◌++◌, append-nil}
use lib.ListN.{length}
use lib.Dec.{eqb}
use borrow.Author.Tests.{eqb-true, ne_eqb}
use Rattle.meaning.specs.Octets.{pick}
use Rattle.meaning.specs.Frame.{tag_len}
use Rattle.meaning.specs.Records.{extended_address, Store}
use Rattle.meaning.specs.Cipher.{cipher, cipher_with, add_round_key}
use Rattle.meaning.specs.Ccm.{Sealed}
use Rattle.meaning.specs.Build.{header_by, head_octets, aux_octets, sealing, secured_body, plain_body}
use Rattle.meaning.specs.declared.Request.{Request}
use Rattle.meaning.proofs.Ccm.{length-cipher-text, length-tag}
use Rattle.demands.specs.Round.{key_sent}

-- what stands for the private payload, and its tag
unfoldable pub sealed_sent : Store → Request → List ℕ → List ℕ → Sealed
sealed_sent σ q o p =
    pick (eqb q.level 0) (record { cipher = p; tag = [] })
    (sealing (key_sent σ q) (extended_address σ.tables.settings) σ.own q.level
    (head_octets (header_by σ.tables.settings q) ++ (aux_octets q σ.own ++ o)) p)

-- the frame without its FCS
unfoldable pub body_sent : Store → Request → List ℕ → List ℕ → List ℕ
body_sent σ q o p =
    head_octets (header_by σ.tables.settings q)
    ++ (aux_octets q σ.own ++ (o ++ ((sealed_sent σ q o p).cipher ++ (sealed_sent σ q o p).tag)))

length-block : (k b : List ℕ) → length (cipher k b) ≡ 16
unfolding cipher cipher_with add_round_key
length-block k b = refl

pub no-tag : tag_len 0 ≡ 0
unfolding tag_len
no-tag = refl

module _ (σ : Store) (q : Request) (o p : List ℕ) where
  pub cipher-long : length (sealed_sent σ q o p).cipher ≡ length p
  unfolding sealed_sent sealing
  cipher-long = go (eqb q.level 0)
    where
      go : (t : Bool) → length (pick t (record { cipher = p; tag = [] }) (sealing (key_sent σ q) (extended_address σ.tables.settings) σ.own q.level
          (head_octets (header_by σ.tables.settings q) ++ (aux_octets q σ.own ++ o)) p)).cipher ≡ length p
      go true = refl
      go false = length-cipher-text (cipher (key_sent σ q)) _ q.level _ p

  pub tag-long : length (sealed_sent σ q o p).tag ≡ tag_len q.level
  unfolding sealed_sent sealing
  tag-long = go (eqb q.level 0) refl
    where
      go : (t : Bool) → eqb q.level 0 ≡ t → length (pick t (record { cipher = p; tag = [] }) (sealing (key_sent σ q) (extended_address σ.tables.settings) σ.own q.level
          (head_octets (header_by σ.tables.settings q) ++ (aux_octets q σ.own ++ o)) p)).tag ≡ tag_len q.level
      go true e = sym (ap tag_len (eqb-true q.level 0 e) ∙ no-tag)
      go false e = length-tag (cipher (key_sent σ q)) (length-block (key_sent σ q)) _ q.level _ p

  pub plain-body : q.level ≡ 0 → aux_octets q σ.own ≡ [] → plain_body (head_octets (header_by σ.tables.settings q)) o p ≡ body_sent σ q o p
  unfolding plain_body body_sent sealed_sent
  plain-body e x = rw (x, e, append-nil p)

  pub secured-body : q.level ≢ 0
      → secured_body (key_sent σ q) (extended_address σ.tables.settings) σ.own q.level
      (head_octets (header_by σ.tables.settings q)) (aux_octets q σ.own) o p ≡ body_sent σ q o p
  unfolding secured_body body_sent sealed_sent
  secured-body n = rw (ne_eqb q.level 0 n)
