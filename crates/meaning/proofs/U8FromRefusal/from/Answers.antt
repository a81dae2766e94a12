-- A refusal's discriminant is its number, at each of the seventeen.
use Rattle.std.proofs.Common.{refl, ◌≡◌, ◌+◌}
use denote.Enum.Declared.{tag_of}
use Rattle.meaning.specs.Status.{number}
use Rattle.meaning.specs.contracts.Refusal.{the_type}
use Rattle.meaning.specs.declared.Refusal.TheVariants.{Site, Room, Length, Fcs, Malformed, Filtered, UnsupportedLegacy, UnsupportedSecurity, UnavailableSecurityLevel, ImproperSecurityLevel, UnavailableKey, ImproperKeyType, UnavailableDevice, CounterError, SecurityError, FrameTooLong, InvalidParameter}
use Rattle.meaning.proofs.U8FromRefusal.from.Goals as goal

pub returns : goal.returns
unfolding number
returns c = elim c.args.r as (λ r. tag_of the_type r + 1 ≡ number r) [
  | Site ↦ refl
  | Room ↦ refl
  | Length ↦ refl
  | Fcs ↦ refl
  | Malformed ↦ refl
  | Filtered ↦ refl
  | UnsupportedLegacy ↦ refl
  | UnsupportedSecurity ↦ refl
  | UnavailableSecurityLevel ↦ refl
  | ImproperSecurityLevel ↦ refl
  | UnavailableKey ↦ refl
  | ImproperKeyType ↦ refl
  | UnavailableDevice ↦ refl
  | CounterError ↦ refl
  | SecurityError ↦ refl
  | FrameTooLong ↦ refl
  | InvalidParameter ↦ refl
]
