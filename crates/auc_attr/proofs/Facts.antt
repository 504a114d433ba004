-- What other crates may cite of the proofs here; every other module is private. A name with _in has a table as its first
-- argument, the same name without it goes by the table of EAP-AKA.
pub use Rattle.auc_attr.proofs.AkaLemmas.{attr_size, attrs_within, found_is_framed, frame_again, mac_within, one_fault, one_place, one_walk, place_fits}
pub use Rattle.auc_attr.proofs.FrameLemmas.{attrs_within_in}
pub use Rattle.auc_attr.proofs.FrameFaultLemmas.{frame_again_in, frame_sound_in}
pub use Rattle.auc_attr.proofs.ItemLemmas.{fits_item-is}
pub use Rattle.auc_attr.proofs.LawLemmas.{found_is_framed_in, one_fault_in, one_list, read_is_writable, read_is_writable_in, refused_is_not_read, refused_is_not_read_in}
pub use Rattle.auc_attr.proofs.MacLemmas.{mac_within_in}
pub use Rattle.auc_attr.proofs.PlaceLemmas.{one_place_in, place_fits_in}
pub use Rattle.auc_attr.proofs.SpellingLemmas.{attr_size_in, item_text-is, written_attributes_are_read, written_is_read_in}
pub use Rattle.auc_attr.proofs.Tools.{IsBytes, IsBytes-drop, IsBytes-take, and_from, and_parts, some_is}
pub use Rattle.auc_attr.proofs.WalkLemmas.{IsReadTo, begins, ended, faulty, first_fault, goes_on, kinds, one_walk_in}
