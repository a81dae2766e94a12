-- Open payloads of whole frames, by computing: the FCS's octets stand at the end and are not looked at. Assumes nothing.
use mathlib.Core.Path.{◌≡◌, refl}
use mathlib.Core.List.{[], ◌∷◌}
use Rattle.meaning.specs.Octets.{le_at}
use Rattle.meaning.specs.Frame.{
  type_of,
  security_of,
  pending_of,
  request_of,
  compression_of,
  destination_mode,
  version_of,
  source_mode,
  address_len,
  destination_len,
  source_len,
  address_at,
  destination_of,
  source_of,
  header_of,
  level_of,
  mode_of,
  key_source_len,
  key_id_len,
  tag_len,
  gts_len,
  pending_len,
  pending_sum,
  pending_part,
  then,
  head_m,
  aux_m,
  beacon_m,
  open_m,
  cut_open,
  cut_aux,
  divide,
  cuts_of,
  view,
  open_end,
  modes_right,
  compression_right,
  shape_right,
  head_right,
  pending_right,
  bodied,
}
use Rattle.meaning.specs.Fcs.{inner}
use Rattle.frame.specs.Parts.{divided, open_payload}

pub record Examples : Type 0 where
  -- a beacon with one GTS descriptor, no pending address and a private octet 55
  pub beacon : open_payload
      (0x00 ∷ 0x80 ∷ 0x01 ∷ 0xcd ∷ 0xab ∷ 0x34 ∷ 0x12 ∷ 0xff ∷ 0xcf ∷ 0x01 ∷ 0x00 ∷ 0x11 ∷ 0x22 ∷ 0x33 ∷ 0x00 ∷ 0x55 ∷ 0x00 ∷ 0x00 ∷ [])
      ≡ 0xff ∷ 0xcf ∷ 0x01 ∷ 0x00 ∷ 0x11 ∷ 0x22 ∷ 0x33 ∷ 0x00 ∷ []
  -- the command 04
  pub command : open_payload (0x43 ∷ 0x88 ∷ 0x01 ∷ 0xcd ∷ 0xab ∷ 0x34 ∷ 0x12 ∷ 0x78 ∷ 0x56 ∷ 0x04 ∷ 0x00 ∷ 0x00 ∷ []) ≡ 0x04 ∷ []
  -- without its identifier it cannot be divided
  pub cut : open_payload (0x43 ∷ 0x88 ∷ 0x01 ∷ 0xcd ∷ 0xab ∷ 0x34 ∷ 0x12 ∷ 0x78 ∷ 0x56 ∷ 0x00 ∷ 0x00 ∷ []) ≡ []
  -- an acknowledgment
  pub acknowledgment : open_payload (0x02 ∷ 0x00 ∷ 0x6a ∷ 0xe4 ∷ 0x79 ∷ []) ≡ []

pub examples : Examples
unfolding open_payload inner divided view cuts_of divide cut_aux cut_open head_m aux_m open_m beacon_m then bodied head_right modes_right compression_right shape_right pending_right open_end tag_len level_of mode_of key_source_len key_id_len gts_len pending_len pending_sum pending_part header_of source_of destination_of address_at le_at address_len destination_len source_len type_of security_of pending_of request_of compression_of destination_mode version_of source_mode
examples = record { beacon = refl; command = refl; cut = refl; acknowledgment = refl }
