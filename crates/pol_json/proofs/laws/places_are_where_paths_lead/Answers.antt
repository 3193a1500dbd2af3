use Rattle.pol_json.proofs.Looking.{places_are_led_to, led_to_is_a_place}
use Rattle.pol_json.proofs.laws.places_are_where_paths_lead.Goals as goal

pub returns : goal.returns
returns c shape d place =
    (places_are_led_to shape d place, λ led. led_to_is_a_place place.path shape d place.shape place.value led)
