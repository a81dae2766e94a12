-- The round trip's premises can be met with security: the site of a file with one device, its own, that
-- sends itself a frame at level 6. Each by one computation on the file's store. Assumes nothing.
use Rattle.std.specs.Prelude.{Ok}
use Rattle.meaning.specs.Receive.{Judged}
use mathlib.Core.Path.{◌≡◌, refl, sym, subst, ◌∙◌}
use Prim.Native.Nat.{ℕ, suc, ◌≤◌, ◌<◌}
use native.Mathlib.Decide.{dec_le}
use native.Mathlib.Omega.{arith}
use mathlib.Core.Bool.{true, false}
use mathlib.Core.List.{List, [], ◌∷◌, ◌++◌}
use lib.ListN.{length, get_or, replicate, get_or-eq_default}
use lib.Dec.{T, ltb, ltb→lt}
use Rattle.meaning.specs.Records.{Store}
use Rattle.meaning.specs.File.{file_store, file_rule}
use Rattle.meaning.specs.Site.{settings_of, tables_of, store_of}
use Rattle.meaning.specs.Loading.{site_of}
use Rattle.meaning.specs.Build.{built, built_valid, laid, made, on_counter, on_lookup, secured, request_right, fields_right, mode_right, source_right, payloads_right, header_by, fitted, own_address, compresses, frame_len, head_octets, first_octet, second_octet, placed_octets, address_octets, source_octets, aux_octets, key_id_octets}
use Rattle.meaning.specs.declared.Passed.TheVariants.{Secure}
use Rattle.meaning.specs.declared.Request.{Request}
use Rattle.meaning.proofs.Computed.{every, at}
use Rattle.meaning.proofs.Bridges.{site-of-rule, site-of-store}
use Rattle.demands.specs.Round.{Octets, Sent, key_in, key_sent, admission, Same, securely, Taken, Comes-back}
use Rattle.demands.proofs.Octets.{site-octets}
use Rattle.demands.proofs.Computing.{read, computed}
use Rattle.demands.proofs.Round.{comes-back}

-- settings, device, level, key, lookup, usage, handle
abbrev file : List ℕ
file =
    (1 ∷ 35 ∷ 1 ∷ 0 ∷ 42 ∷ 0 ∷ 2 ∷ 17 ∷ 1 ∷ 0 ∷ 77 ∷ 0 ∷ 3 ∷ 5 ∷ 1 ∷ 0 ∷ 94 ∷ 0 ∷ 4 ∷ 16 ∷ 1 ∷ 0 ∷ 99 ∷ 0 ∷ 5 ∷ 22 ∷ 1 ∷ 0 ∷ 115 ∷ 0 ∷ 6 ∷ 3 ∷ 1 ∷ 0 ∷ 137 ∷ 0 ∷ 7 ∷ 2 ∷ 1 ∷ 0 ∷ 140 ∷ 0 ∷ [])
    ++ (52 ∷ 18 ∷ 1 ∷ 0 ∷ 1 ∷ 2 ∷ 3 ∷ 4 ∷ 5 ∷ 6 ∷ 7 ∷ 8 ∷ 0 ∷ 0 ∷ 0 ∷ 0 ∷ 0 ∷ 0 ∷ 0 ∷ 0 ∷ 0 ∷ 0 ∷ 9 ∷ 10 ∷ 11 ∷ 12 ∷ 13 ∷ 14 ∷ 15 ∷ 16 ∷ 1 ∷ 5 ∷ 0 ∷ 0 ∷ 0 ∷ [])
    ++ (52 ∷ 18 ∷ 1 ∷ 0 ∷ 1 ∷ 2 ∷ 3 ∷ 4 ∷ 5 ∷ 6 ∷ 7 ∷ 8 ∷ 5 ∷ 0 ∷ 0 ∷ 0 ∷ 0 ∷ [])
    ++ (1 ∷ 0 ∷ 5 ∷ 0 ∷ 0 ∷ [])
    ++ (0 ∷ 1 ∷ 2 ∷ 3 ∷ 4 ∷ 5 ∷ 6 ∷ 7 ∷ 8 ∷ 9 ∷ 10 ∷ 11 ∷ 12 ∷ 13 ∷ 14 ∷ 15 ∷ [])
    ++ (0 ∷ 1 ∷ 7 ∷ 9 ∷ 10 ∷ 11 ∷ 12 ∷ 13 ∷ 14 ∷ 15 ∷ 16 ∷ 0 ∷ 0 ∷ 0 ∷ 0 ∷ 0 ∷ 0 ∷ 0 ∷ 0 ∷ 0 ∷ 0 ∷ 0 ∷ [])
    ++ (0 ∷ 1 ∷ 0 ∷ [])
    ++ (0 ∷ 0 ∷ [])

abbrev site : List ℕ
site = site_of file

-- data at level 6, to the own short address, by key mode 1
abbrev ask : Request
ask =
    record {
      kind = 1;
      version = 1;
      pending = false;
      request = false;
      sequence = 17;
      destination = record { mode = 2; pan = 0x1234; address = 1 };
      srcmode = 2;
      level = 6;
      keymode = 1;
      keysource = replicate 8 0;
      keyindex = 7;
    }

abbrev text : List ℕ
text = 1 ∷ 2 ∷ 3 ∷ []

abbrev room : List ℕ
room = replicate 127 0

-- every octet below 256, by one test
octets-by : (s : List ℕ) → T (every (λ k x. ltb x 256) 0 s) → Octets s
unfolding Octets
octets-by s t i = go (dec_le (suc i) (length s))
  where
    go : Dec (suc i ≤ length s) → get_or s i 0 < 256
    go (yes h) = ltb→lt (get_or s i 0) 256 (at (λ k x. ltb x 256) s t i h)
    go (no h) = rw (get_or-eq_default s 0 {n = i} (omega arith)) (omega arith)

rule : file_rule file ≡ true
unfolding read
rule = refl

success : (built site ask [] text room).answer.status ≡ 0
unfolding read computed built built_valid laid made on_counter on_lookup secured request_right fields_right mode_right source_right payloads_right frame_len header_by fitted own_address compresses head_octets first_octet second_octet placed_octets address_octets source_octets aux_octets key_id_octets
success = rw (site-of-rule file, rule, site-of-store file rule)

-- filter and policies see the tables of the store
admitted-by : (s : List ℕ) (σ : Store) (q : Request) (o : List ℕ) (g : Judged) → store_of s ≡ σ
    → admission σ.tables (header_by σ.tables.settings q) (aux_octets q σ.own) o ≡ g
    → admission (tables_of s) (header_by (settings_of s) q) (aux_octets q (store_of s).own) o ≡ g
unfolding store_of tables_of
admitted-by s σ q o g e h =
    subst (λ (τ : Store). admission τ.tables (header_by τ.tables.settings q) (aux_octets q τ.own) o ≡ g) (sym e) h

admitted : admission (tables_of site) (header_by (settings_of site) ask) (aux_octets ask (store_of site).own) [] ≡ Ok (Secure 0 0 0)
unfolding read computed admission header_by fitted own_address compresses aux_octets key_id_octets
admitted = admitted-by site (file_store file) ask [] (Ok (Secure 0 0 0)) (site-of-store file rule) refl

same-store : Same (file_store file) (file_store file) ask 0 0 0
unfolding read computed fitted key_in key_sent
same-store = record { key = refl; extended = refl; counter = omega arith }

same : Same (store_of site) (store_of site) ask 0 0 0
same = rw (site-of-store file rule) same-store

pub meets : Sent site ask [] text room
meets =
    record {
      octets = site-octets file (octets-by file tt) rule;
      ranged = record { pan = omega arith; address = omega arith; keysource = refl };
      success = success;
    }

pub taken : Taken site ask [] site room (Ok (Secure 0 0 0))
taken =
    record {
      site = site-of-rule file ∙ rule;
      room = omega arith;
      admitted = admitted;
      agreed = securely same;
    }

-- so the frame comes back
pub returned : Comes-back site ask [] text room site room (Ok (Secure 0 0 0))
returned = comes-back site ask [] text room meets site room (Ok (Secure 0 0 0)) taken
