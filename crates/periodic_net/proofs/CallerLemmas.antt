-- The lemmas of this crate that other crates cite.
pub use Rattle.periodic_net.proofs.Translations.{leads_to, led_from, share_by, share_from, share_move, share_reflexive, share_symmetric, one_arc, one_leg}
pub use Rattle.periodic_net.proofs.Translations.{class_arcs, joined_of_vector, same_end, stands_back, stands_by, stands_difference, translation_plus}
pub use Rattle.periodic_net.proofs.ClassArcs.{few_class_arcs, stars_are_class_graph, stars_told, IsShape, class_in, flat_arcs, member, class_arc_of}
pub use Rattle.periodic_net.proofs.Coarsest.{holds_next, lead_inside, parts_are_classes, before, numbered_new, numbered_old, parts_few, finer_next, grows}
pub use Rattle.periodic_net.proofs.nets.Walks.{closed_difference, closed_group, reached_inside, walk_back, walk_dimension, walks_add, with_itself}
pub use Rattle.periodic_net.proofs.nets.Walks.{with_transitive, with_turned, arc_walk, arc_with, closed_generated, generator_closed, one_chosen, path_walk}
pub use Rattle.periodic_net.proofs.nets.Walks.{arc_is_from, arc_turned, arcs_apart, both_length, edge_in, either_way, from_is_arc, one_spelling}
pub use Rattle.periodic_net.proofs.nets.Walks.{reverse_in, reverse_twice, IsInside, arc_inside, joined_inside, origin_vertex, IsTree, connected_by_tree}
pub use Rattle.periodic_net.proofs.nets.Walks.{reached_by_shift, joined_moved, joined_turned, moved_to, reached_by_arc, reached_itself, reached_moved}
pub use Rattle.periodic_net.proofs.placements.Positions.{collided, collides, no_collision_from, at_origin, end_vector, move_dimension, moves_by}
pub use Rattle.periodic_net.proofs.Theorems.{moves_are_translations, barycentric_placements_translate, isomorphisms_carry, isomorphisms_keep}
pub use Rattle.periodic_net.proofs.BreadthSearch.{no_later_itself, no_later_transitive, complete_chosen, complete_finds, complete_with, settle_end}
pub use Rattle.periodic_net.proofs.isomorphisms.Periods.{iso_reflexive, iso_symmetric, iso_transitive, IsMatching, iso_matching, matching_turned}
pub use Rattle.periodic_net.proofs.isomorphisms.Periods.{walk_there, identity_periodic, moved_vertex, arc_between, between_end, carried, end_between}
pub use Rattle.periodic_net.proofs.nets.Walks.{reached_transitive, reached_turned, same_joined, same_reached, walks_joined}
pub use Rattle.periodic_net.proofs.placements.Positions.{position_moved, positions_tell, vertex_decided, is_vertex_decided}
pub use Rattle.periodic_net.proofs.BreadthSearch.{settle_known, settle_new, settle_next, settle_start}
pub use Rattle.periodic_net.proofs.examples.SquareNet.{loop, right, left, down, flat_closed, square_classes, square_is_classes, up, square_graph, square_stable}
pub use Rattle.periodic_net.proofs.isomorphisms.CarriedClasses.{correspond_turned, iso_classes}
pub use Rattle.periodic_net.proofs.isomorphisms.Periods.{end_joined, end_of, InBox, drawn, drawn_by_table, in_box, periodic_of_drawn}
pub use Rattle.periodic_net.proofs.nets.{SplitCases.one_not_alike, SplitCases.split_by_parts, SplitCases.split_shows_not_connected}
pub use Rattle.periodic_net.proofs.nets.{SplitCases.equal_if_not_unequal, Normals.normal_is_one}
pub use Rattle.periodic_net.proofs.placements.OnePlacement.{gain, one_placement, one_vertex, total_linear, total_zero}
pub use Rattle.periodic_net.proofs.{Translations.whole_translation, ClassArcs.class_arcs_shown, ClassArcs.shows_class_arc, ClassArcs.shows_one}
pub use Rattle.periodic_net.proofs.{Coarsest.stays, Theorems.normal_placement_is_one, Theorems.translations_are_group, examples.TwoVertices.either}
pub use Rattle.periodic_net.proofs.{examples.TwoVertices.honeycomb_normal_placement, isomorphisms.AffineMaps.image_linear}
pub use Rattle.periodic_net.proofs.isomorphisms.Bijections.{bare_connected, bare_equivalence, bare_matching, bare_of_iso, bare_reflexive}
pub use Rattle.periodic_net.proofs.isomorphisms.Bijections.{bare_transitive, bare_turned}
pub use Rattle.periodic_net.proofs.isomorphisms.{BareMaps.bare_periodic, StableNets.bare_between, StableNets.bare_iso, StableNets.bare_stable}
pub use Rattle.periodic_net.proofs.isomorphisms.{StableNets.iso_of_bare, StableNets.stable_told}
