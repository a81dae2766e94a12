-- A file's rules and store, and the verdict on a frame, with all that they say opened but for the cipher: a theorem that is computed names one of
-- these on its `unfolding` line. And what the site of a loaded file answers, by the file's store: no site is ever computed. Assumes nothing.
use mathlib.Core.Path.{◌≡◌}
use mathlib.Core.Bool.{Bool, true}
use mathlib.Core.List.{List}
use Prim.Native.Nat.{ℕ}
use lib.ListN.{length}
use Rattle.meaning.specs.Octets.{le_at, octs, same, stands, beside}
use Rattle.meaning.specs.Status.{number}
use Rattle.meaning.specs.Frame.{
  type_of,
  security_of,
  pending_of,
  request_of,
  compression_of,
  destination_mode,
  version_of,
  source_mode,
  address_len,
  destination_len,
  source_len,
  address_at,
  destination_of,
  source_of,
  header_of,
  level_of,
  mode_of,
  counter_of,
  key_source_len,
  key_id_len,
  key_index_of,
  tag_len,
  enciphers,
  at_least,
  gts_len,
  pending_len,
  pending_sum,
  pending_part,
  then,
  head_m,
  aux_m,
  beacon_m,
  open_m,
  open_count,
  cut_open,
  cut_aux,
  divide,
  cuts_of,
  rest_of,
  view,
  open_end,
  private_len,
  modes_right,
  compression_right,
  shape_right,
  head_right,
  pending_right,
  bodied,
}
use Rattle.meaning.specs.Fcs.{shifted, fed, summed, sum, fcs, inner, fcs_right}
use Rattle.meaning.specs.Records.{
  width_of,
  limit_of,
  least_of,
  count_right,
  start_by,
  pan_id,
  short_address,
  extended_address,
  coordinator_short,
  coordinator_extended,
  default_key_source,
  security_on,
  is_coordinator,
  own_counter,
  device_at,
  counter_at,
  key_at,
  handle_at,
  Store,
  settings_right,
  device_right,
  level_right,
  lookup_right,
  usage_right,
  handle_right,
  clash,
  clashes,
  distinct,
  tables_rule,
  store_rule,
}
use Rattle.meaning.specs.File.{file_count, file_place, start_of, entry_right, contents_right, file_body, file_tables, file_store, file_rule}
use Rattle.meaning.specs.Filter.{strange_pan, strange_short, strange_extended, strange_beacon, strange_source, cause}
use Rattle.meaning.specs.Steps.{fits, level_row, passes, overrides, stand_in, peer_of, is_peer, device_row, fits_lookup, lookup_row, peer_octets, key_source, key_row, key_of, usage_row, handle_of, handle_row}
use Rattle.meaning.specs.Ccm.{
  nonce_of,
  xor_by,
  size16,
  padded,
  flags_of,
  first_block,
  data_blocks,
  blocks_of,
  counter_block,
  chain,
  mac_of,
  tag_of,
  stream,
  crypt,
  sealed_by,
  sealed,
  unsealed_by,
  unsealed,
}
use Rattle.meaning.specs.Receive.{
  check,
  try,
  split,
  command_of,
  on_device,
  on_use,
  on_key,
  on_exempt,
  on_policy,
  on_level,
  on_security,
  on_parts,
  on_view,
  judge,
  judged,
  refusal,
  report,
  stored,
  raised,
  raised_in,
  timely,
  private_of,
  opened,
  tagged,
  admit,
  settle,
  verdict,
  Verdict,
  write,
  received_valid,
  received,
}
use Rattle.meaning.specs.Build.{with_fcs}
use Rattle.meaning.specs.Loading.{site_of}
use Rattle.meaning.proofs.Bridges.{site-of-rule, site-of-store}

-- the rules and the store of a file
unfoldable pub read : List ℕ → Bool × Store
unfolding le_at width_of limit_of least_of count_right start_by file_count file_place start_of entry_right contents_right file_body file_tables file_store file_rule device_at
    counter_at handle_at own_counter settings_right device_right level_right lookup_right usage_right handle_right clash clashes distinct tables_rule store_rule
read f = (file_rule f, file_store f)

-- the verdict on a frame
unfoldable pub computed : Store → ℕ → List ℕ → Verdict
unfolding le_at octs same stands beside number type_of security_of pending_of request_of compression_of destination_mode
    version_of source_mode address_len destination_len source_len address_at destination_of source_of header_of level_of mode_of
    counter_of key_source_len key_id_len key_index_of tag_len enciphers at_least gts_len pending_len pending_sum pending_part then
    head_m aux_m beacon_m open_m open_count cut_open cut_aux divide cuts_of rest_of view open_end private_len modes_right
    compression_right shape_right head_right pending_right bodied shifted fed summed sum fcs inner fcs_right pan_id short_address
    extended_address coordinator_short coordinator_extended default_key_source security_on is_coordinator key_at strange_pan
    strange_short strange_extended strange_beacon strange_source cause fits level_row passes overrides stand_in peer_of is_peer
    device_row fits_lookup lookup_row peer_octets key_source key_row key_of usage_row handle_of handle_row nonce_of xor_by size16
    padded flags_of first_block data_blocks blocks_of counter_block chain mac_of tag_of stream crypt sealed_by sealed unsealed_by
    unsealed check try split command_of on_device on_use on_key on_exempt on_policy on_level on_security on_parts on_view judge
    judged refusal report stored raised raised_in timely private_of opened tagged admit settle verdict write with_fcs
computed σ room f = verdict σ room f

-- ---- the site of a file that keeps its rules
module _ (f : List ℕ) (rule : file_rule f ≡ true) where
  -- frame m with output o
  pub received-by : (m o : List ℕ) (v : Verdict) → verdict (file_store f) (length o) m ≡ v → received (site_of f) m o ≡ write (site_of f) o v
  unfolding received received_valid
  received-by m o v e = rw (site-of-rule f, rule, site-of-store f rule, e)
