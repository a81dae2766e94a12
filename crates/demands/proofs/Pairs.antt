-- The premise of demand 3 is one that runs meet: the sites of two files with different keys and five pairs of frames, accepted and refused, each
-- verdict computed from the file's store. The private octets differ in each pair that has some, and so do tags and FCS. The last pair has no tag, so
-- no verdict waits for the cipher. Assumes nothing.
use mathlib.Core.Path.{◌≡◌, refl, sym, ap, ◌∙◌}
use mathlib.Core.Logic.{◌≢◌}
use Prim.Native.Nat.{ℕ, ◌+◌}
use native.Mathlib.Omega.{arith}
use mathlib.Core.Bool.{true}
use mathlib.Core.List.{List, [], ◌∷◌, ◌++◌}
use lib.ListN.{length, get_or, take, drop, replicate}
use Rattle.meaning.specs.Octets.{tab}
use Rattle.meaning.specs.Frame.{view}
use Rattle.meaning.specs.Fcs.{inner, fcs_right}
use Rattle.meaning.specs.Records.{Store}
use Rattle.meaning.specs.File.{file_rule}
use Rattle.meaning.specs.Site.{store_of}
use Rattle.meaning.specs.Loading.{site_of}
use Rattle.meaning.specs.Receive.{refusal, report, Raise, keep, raise, refuse, accept, opened, Outcome, outcome, write, received}
use Rattle.meaning.specs.Build.{with_fcs}
use Rattle.meaning.specs.declared.Refusal.TheVariants.{Fcs, Filtered, CounterError}
use Rattle.meaning.proofs.Bridges.{site-of-store}
use Rattle.demands.specs.Secrecy.{AlikeSites, span, outside, Paired, Agree, Secret}
use Rattle.demands.specs.Loading.{file_keys_at, file_keys_len, AlikeFiles}
use Rattle.demands.proofs.Secrecy.{secrecy, tags-by-status}
use Rattle.demands.proofs.Loading.{sites-of}
use Rattle.demands.proofs.Computing.{read, computed, received-by}

-- ---- two files: one device, one key; the key and the device's counter are given
abbrev pub key_a : List ℕ
key_a = tab (λ i. 0xc0 + i) 16

abbrev key_b : List ℕ
key_b = tab (λ i. 0x30 + i) 16

abbrev file_by : List ℕ → ℕ → List ℕ
file_by key counter =
    -- table of contents
    (1 ∷ 35 ∷ 1 ∷ 0 ∷ 42 ∷ 0 ∷ 2 ∷ 17 ∷ 1 ∷ 0 ∷ 77 ∷ 0 ∷ 3 ∷ 5 ∷ 1 ∷ 0 ∷ 94 ∷ 0 ∷ 4 ∷ 16 ∷ 1 ∷ 0 ∷ 99 ∷ 0
    ∷ 5 ∷ 22 ∷ 1 ∷ 0 ∷ 115 ∷ 0 ∷ 6 ∷ 3 ∷ 1 ∷ 0 ∷ 137 ∷ 0 ∷ 7 ∷ 2 ∷ 1 ∷ 0 ∷ 140 ∷ 0 ∷ [])
    -- PAN 0x4321, short 1, extended 0xacde480000000001, the device is the coordinator, security on
    ++ ((0x21 ∷ 0x43 ∷ 1 ∷ 0 ∷ 1 ∷ 0 ∷ 0 ∷ 0 ∷ 0 ∷ 0x48 ∷ 0xde ∷ 0xac ∷ 2 ∷ 0 ∷ replicate 16 0)
    ++ ((1 ∷ 0 ∷ 0 ∷ 0 ∷ 0 ∷ [])
    -- the device: short 2, extended 0xacde480000000002
    ++ ((0x21 ∷ 0x43 ∷ 2 ∷ 0 ∷ 2 ∷ 0 ∷ 0 ∷ 0 ∷ 0 ∷ 0x48 ∷ 0xde ∷ 0xac ∷ counter ∷ 0 ∷ 0 ∷ 0 ∷ 0 ∷ [])
    -- every level of data; the key; mode 1 with index 7; data; the device
    ++ ((1 ∷ 0 ∷ 0 ∷ 0 ∷ 0 ∷ [])
    ++ (key
    ++ ((0 ∷ 1 ∷ 7 ∷ replicate 19 0)
    ++ ((0 ∷ 1 ∷ 0 ∷ [])
    ++ (0 ∷ 0 ∷ []))))))))

abbrev pub file_a : List ℕ
file_a = file_by key_a 5

abbrev pub file_b : List ℕ
file_b = file_by key_b 5

abbrev pub site_a : List ℕ
site_a = site_of file_a

abbrev pub site_b : List ℕ
site_b = site_of file_b

pub rule-A : file_rule file_a ≡ true
unfolding read
rule-A = refl

rule-B : file_rule file_b ≡ true
unfolding read
rule-B = refl

abbrev pub empty : List ℕ
empty = replicate 127 0

-- ---- the frames
-- unsecured data from the device, with private octets q
abbrev pub plain : List ℕ → List ℕ
plain q = with_fcs (0x41 ∷ 0x88 ∷ 1 ∷ 0x21 ∷ 0x43 ∷ 1 ∷ 0 ∷ 2 ∷ 0 ∷ q)

-- for another PAN
abbrev pub strange : List ℕ
strange = with_fcs (0x41 ∷ 0x88 ∷ 2 ∷ 0x99 ∷ 0x99 ∷ 1 ∷ 0 ∷ 2 ∷ 0 ∷ 7 ∷ [])

-- with z for an FCS
abbrev pub spoilt : ℕ → List ℕ
spoilt z = 0x41 ∷ 0x88 ∷ 3 ∷ 0x21 ∷ 0x43 ∷ 1 ∷ 0 ∷ 2 ∷ 0 ∷ 7 ∷ z ∷ z ∷ []

-- secured at a level, with a counter; after the open octets q has the private payload and the tag
abbrev secured : ℕ → ℕ → List ℕ → List ℕ
secured level counter q =
    with_fcs (0x09 ∷ 0x18 ∷ 5 ∷ 0x21 ∷ 0x43 ∷ 1 ∷ 0 ∷ (level + 8) ∷ counter ∷ 0 ∷ 0 ∷ 0 ∷ 7 ∷ q)

abbrev pub late_a : List ℕ
late_a = secured 6 4 (1 ∷ 2 ∷ 3 ∷ 4 ∷ 5 ∷ 6 ∷ 7 ∷ 8 ∷ 9 ∷ [])

abbrev late_b : List ℕ
late_b = secured 6 4 (9 ∷ 8 ∷ 7 ∷ 6 ∷ 5 ∷ 4 ∷ 3 ∷ 2 ∷ 1 ∷ [])

-- level 4: enciphered, without a tag
abbrev pub untagged_a : List ℕ
untagged_a = secured 4 5 (1 ∷ 2 ∷ [])

abbrev untagged_b : List ℕ
untagged_b = secured 4 5 (3 ∷ 4 ∷ [])

abbrev pub frames_a : List (List ℕ)
frames_a = plain (1 ∷ 2 ∷ 3 ∷ []) ∷ strange ∷ spoilt 0 ∷ late_a ∷ untagged_a ∷ []

abbrev pub frames_b : List (List ℕ)
frames_b = plain (4 ∷ 5 ∷ 6 ∷ []) ∷ strange ∷ spoilt 1 ∷ late_b ∷ untagged_b ∷ []

-- the first pair of two lists, by its outcomes
pair : (s t f g o p : List ℕ) (fs gs : List (List ℕ)) (x y : Outcome) → received s f o ≡ x → received t g p ≡ y
    → x.answer.status ≡ y.answer.status → length f ≡ length g → take (span x.answer.status f) f ≡ take (span x.answer.status f) g
    → fcs_right f ≡ fcs_right g → Paired x.site y.site x.out y.out fs gs → Paired s t o p (f ∷ fs) (g ∷ gs)
unfolding outside
pair s t f g o p fs gs x y ex ey e l w c rest = (
  record {
    lengths = l;
    octets = rw ex w;
    checks = c;
    tags = tags-by-status s t f g o p (rw (ex, ey) e);
  },
  rw (ex, ey) rest,
)

-- ---- the outcomes
abbrev pub out_a : List ℕ
out_a = 1 ∷ 2 ∷ 3 ∷ replicate 124 0

abbrev out_b : List ℕ
out_b = 4 ∷ 5 ∷ 6 ∷ replicate 124 0

-- accepted at a level, by a device, with the private octets q
abbrev pub took : List ℕ → List ℕ → List ℕ → ℕ → ℕ → List ℕ → Raise → Outcome
took s f o l d q r = write s o (accept (report (view (inner f)) l d) q r)

pub plain-A : received site_a (plain (1 ∷ 2 ∷ 3 ∷ [])) empty ≡ took site_a (plain (1 ∷ 2 ∷ 3 ∷ [])) empty 0 0 (1 ∷ 2 ∷ 3 ∷ []) keep
unfolding read computed
plain-A = received-by file_a rule-A (plain (1 ∷ 2 ∷ 3 ∷ [])) empty _ refl

plain-B : received site_b (plain (4 ∷ 5 ∷ 6 ∷ [])) empty ≡ took site_b (plain (4 ∷ 5 ∷ 6 ∷ [])) empty 0 0 (4 ∷ 5 ∷ 6 ∷ []) keep
unfolding read computed
plain-B = received-by file_b rule-B (plain (4 ∷ 5 ∷ 6 ∷ [])) empty _ refl

pub strange-A : received site_a strange out_a ≡ outcome (refusal Filtered) site_a out_a
unfolding read computed
strange-A = received-by file_a rule-A strange out_a (refuse Filtered) refl

strange-B : received site_b strange out_b ≡ outcome (refusal Filtered) site_b out_b
unfolding read computed
strange-B = received-by file_b rule-B strange out_b (refuse Filtered) refl

pub spoilt-A : received site_a (spoilt 0) out_a ≡ outcome (refusal Fcs) site_a out_a
unfolding read computed
spoilt-A = received-by file_a rule-A (spoilt 0) out_a (refuse Fcs) refl

spoilt-B : received site_b (spoilt 1) out_b ≡ outcome (refusal Fcs) site_b out_b
unfolding read computed
spoilt-B = received-by file_b rule-B (spoilt 1) out_b (refuse Fcs) refl

pub late-A : received site_a late_a out_a ≡ outcome (refusal CounterError) site_a out_a
unfolding read computed
late-A = received-by file_a rule-A late_a out_a (refuse CounterError) refl

late-B : received site_b late_b out_b ≡ outcome (refusal CounterError) site_b out_b
unfolding read computed
late-B = received-by file_b rule-B late_b out_b (refuse CounterError) refl

-- what the cipher makes of it is left as it stands
abbrev pub text : List ℕ → List ℕ → List ℕ
text key f = (opened key 0xacde480000000002 (view (inner f)) (inner f)).text

pub untagged-A : received site_a untagged_a out_a ≡ took site_a untagged_a out_a 4 1 (text key_a untagged_a) (raise 0 0 5)
unfolding read computed
untagged-A = received-by file_a rule-A untagged_a out_a _ refl

untagged-B : received site_b untagged_b out_b ≡ took site_b untagged_b out_b 4 1 (text key_b untagged_b) (raise 0 0 5)
unfolding read computed
untagged-B = received-by file_b rule-B untagged_b out_b _ refl

-- ---- the premise is met
pub files-alike : AlikeFiles file_a file_b
unfolding read file_keys_at file_keys_len
files-alike = record { lengths = refl; before = refl; after = refl }

pub sites-alike : AlikeSites site_a site_b
sites-alike = sites-of file_a file_b files-alike

-- the first key octet
pub keys-differ : site_a ≢ site_b
unfolding read
keys-differ e =
    let z : ◌≡◌ {A = ℕ} 0xc0 0x30 = ap (λ (σ : Store). get_or σ.keys 0 0) (sym (site-of-store file_a rule-A) ∙ ap store_of e ∙ site-of-store file_b rule-B) in
    omega arith

pub frames-paired : Paired site_a site_b empty empty frames_a frames_b
unfolding computed span
frames-paired =
    pair site_a site_b (plain (1 ∷ 2 ∷ 3 ∷ [])) (plain (4 ∷ 5 ∷ 6 ∷ [])) empty empty (drop 1 frames_a) (drop 1 frames_b) _ _ plain-A plain-B refl refl refl refl
    (pair site_a site_b strange strange out_a out_b (drop 2 frames_a) (drop 2 frames_b) _ _ strange-A strange-B refl refl refl refl
    (pair site_a site_b (spoilt 0) (spoilt 1) out_a out_b (drop 3 frames_a) (drop 3 frames_b) _ _ spoilt-A spoilt-B refl refl refl refl
    (pair site_a site_b late_a late_b out_a out_b (drop 4 frames_a) (drop 4 frames_b) _ _ late-A late-B refl refl refl refl
    (pair site_a site_b untagged_a untagged_b out_a out_b (drop 5 frames_a) (drop 5 frames_b) _ _ untagged-A untagged-B refl refl refl refl
    tt))))

pub they-agree : Agree 0 site_a site_b empty empty frames_a frames_b
unfolding Secret
they-agree = secrecy site_a site_b empty frames_a frames_b sites-alike frames-paired
