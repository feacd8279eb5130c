use Rattle.std.proofs.Common.{◌≡◌, map, codes, ◌∙◌, ap}
use Rattle.serde_json.specs.Data.{object, member, no_members, put}
use Rattle.serde_json.specs.View.{view, members_view}
use Rattle.serde_json.specs.declared.value.Value.{Array}
use Rattle.serde_json.proofs.Views.{view-Object}
use Rattle.json_forms.specs.WrittenValues.{points_from, point_data, law_data, list_data}
use Rattle.json_forms.proofs.WrittenLists.{view-list}
use Rattle.json_forms.proofs.write_values.law_value.Goals as goal

pub returns : goal.returns
unfolding law_data
returns c =
    let value = view (Array c.in_ok-points.points) in
    let listed : value ≡ list_data (map point_data (points_from 0 c.args.law.now)) =
    view-list c.in_ok-points.points _ (c.in_ok-points.ensures ∙ ap (λ ws. map point_data (points_from 0 ws)) c.weights.ensures.weights) in
    view-Object c.put.new.map
    ∙ ap object (c.in_ok-put.ensures.ok ∙ ap (λ es. put (codes "points") value (members_view es)) c.new-members.ensures.empty ∙ ap (λ d. member (codes "points") d no_members) listed)
