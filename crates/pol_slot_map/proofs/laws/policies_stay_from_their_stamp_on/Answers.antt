use Rattle.std.proofs.Common.{take}
use Rattle.pol_data.proofs.Members.{Contains-from_In, In-from_Contains}
use Rattle.pol_model.specs.After.{state_of}
use Rattle.pol_slot_map.proofs.Stamps.{policy_then}
use Rattle.pol_slot_map.proofs.laws.policies_stay_from_their_stamp_on.Goals as goal

pub returns : goal.returns
returns c options requests revision policy within old there =
    Contains-from_In (state_of options (take revision requests)).policies policy
    (policy_then options requests revision policy within old (In-from_Contains (state_of options requests).policies policy there))
