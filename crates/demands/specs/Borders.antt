-- 'Borders to hold', the rows marked P, as one table: what the meaning gives, and what document 01 wants. Assumes nothing: these are definitions.
use Rattle.std.specs.Prelude.{ℕ, ◌≤◌, ◌≡◌, Bool, true, false, ◌&&◌, List, [], ◌∷◌}
use Rattle.meaning.specs.Octets.{pick, same}
use Rattle.meaning.specs.Fcs.{fcs}
use Rattle.meaning.specs.Frame.{at_least, level_of, mode_of, aux_m, head_m, header_of}
use Rattle.meaning.specs.Field.{product}
use Rattle.meaning.specs.Sbox.{sbox}
use Rattle.meaning.specs.Ccm.{flags_of}
use Rattle.meaning.specs.Receive.{timely, raise, raised}

-- a row: what is given, and what is wanted
pub record Row : Type 0 where
  pub given : List ℕ
  pub wanted : List ℕ

abbrev pub truth : Bool → List ℕ
truth b = pick b 1 0 ∷ []

-- type, security, compression, destination mode, version, source mode, and the header's octets
abbrev pub shown : List ℕ → List ℕ
shown f =
    (header_of f).kind
    ∷ (header_of f).security
    ∷ (header_of f).compression
    ∷ (header_of f).destination.mode
    ∷ (header_of f).version
    ∷ (header_of f).source.mode
    ∷ head_m f
    ∷ []

-- a counter's answer, and what the device's counter becomes from n
abbrev pub counted : ℕ → ℕ → List ℕ
counted n c = pick (timely n c) 1 0 ∷ pick (timely n c) (raised (raise 0 0 c) (n ∷ [])) []

unfoldable pub table : List Row
table =
    -- the FCS of 02 00 6A is E4 79
    record { given = fcs (0x02 ∷ 0x00 ∷ 0x6a ∷ []); wanted = 0xe4 ∷ 0x79 ∷ [] }
    -- level 4 is not at least 3
    ∷ record { given = truth (at_least 4 3); wanted = truth false }
    -- security control 0E is level 6, mode 1
    ∷ record { given = level_of (0x0e ∷ []) ∷ mode_of (0x0e ∷ []) ∷ []; wanted = 6 ∷ 1 ∷ [] }
    -- security headers of modes 0 to 3 have 5, 6, 10, 14 octets
    ∷ record {
      given = aux_m 1 (0x06 ∷ []) ∷ aux_m 1 (0x0e ∷ []) ∷ aux_m 1 (0x16 ∷ []) ∷ aux_m 1 (0x1e ∷ []) ∷ [];
      wanted = 5 ∷ 6 ∷ 10 ∷ 14 ∷ [];
    }
    -- control 61 88 is data, compressed, short to short, version 0, header 9 octets; 69 98 adds security and version 1
    ∷ record { given = shown (0x61 ∷ 0x88 ∷ []); wanted = 1 ∷ 0 ∷ 1 ∷ 2 ∷ 0 ∷ 2 ∷ 9 ∷ [] }
    ∷ record { given = shown (0x69 ∷ 0x98 ∷ []); wanted = 1 ∷ 1 ∷ 1 ∷ 2 ∷ 1 ∷ 2 ∷ 9 ∷ [] }
    -- the S-box of 00, 01, 53 is 63, 7C, ED
    ∷ record { given = sbox 0x00 ∷ sbox 0x01 ∷ sbox 0x53 ∷ []; wanted = 0x63 ∷ 0x7c ∷ 0xed ∷ [] }
    -- 57 times 83 is C1 in the field
    ∷ record { given = product 0x57 0x83 ∷ []; wanted = 0xc1 ∷ [] }
    -- the first CCM* block's flags for tags of 4, 8, 16 octets are 49, 59, 79
    ∷ record { given = flags_of 4 1 ∷ flags_of 8 1 ∷ flags_of 16 1 ∷ []; wanted = 0x49 ∷ 0x59 ∷ 0x79 ∷ [] }
    -- device at 5: counter 4 is refused, 5 is accepted and leaves 6
    ∷ record { given = counted 5 4; wanted = 0 ∷ [] }
    ∷ record { given = counted 5 5; wanted = 1 ∷ 6 ∷ [] }
    -- 0xfffffffe is accepted and leaves 0xffffffff
    ∷ record { given = counted 5 0xffff_fffe; wanted = 1 ∷ 0xffff_ffff ∷ [] }
    ∷ []

unfoldable pub holds : List Row → Bool
holds [] = true
holds (r ∷ rs) = same r.given r.wanted && holds rs

-- every row holds; and at 0xffffffff every counter of 32 bits is refused
pub record Borders : Type 0 where
  pub rows : holds table ≡ true
  pub ends : (c : ℕ) → c ≤ 0xffff_ffff → timely 0xffff_ffff c ≡ false
