-- The sizes of tags are the lengths of their texts.
use Rattle.std.proofs.Common.{◌≡◌, ℕ, ◌+◌, Bool, true, false, cond, List, [], ◌∷◌, ◌++◌, length, Option, Some, None}
use Rattle.std.proofs.Common.{refl, sym, ap, ◌∙◌, length-append, arith}
use Rattle.std.specs.Prelude.{◌==◌, codes}
use Rattle.win_events.specs.declared.item.Item.{Item}
use Rattle.win_events.specs.declared.item.Origin.{Origin}
use Rattle.win_events.specs.declared.item.Sort.TheVariants.{TagDel}
use Rattle.win_ctl.specs.Tags.{tag_text, word_if}
use Rattle.core_windows.specs.Windows.{Window}
use Rattle.core_scene.specs.NewItems.{plain_item, tag_with, left_len, tag_len, shown_of, cleared_item}
use Rattle.core_scene.specs.Sizes.{word_size, shows_put, left_size, whole_size, size_of, sized_clear}
use Rattle.core_scene.specs.declared.size.TagSize.{TagSize}

-- eight texts, one after the other
all_lengths : (a b c d e f g h : List ℕ) → length (a ++ b ++ c ++ d ++ e ++ f ++ g ++ h)
    ≡ length a + (length b + length c + length d + length e + length f + length g) + length h
all_lengths a b c d e f g h = grind (arith, length-append)

sized_word : (b : Bool) (word : List ℕ) → length (word_if b word) ≡ word_size b (length word)
sized_word true word = refl
sized_word false word = refl

-- the tag with any right part
sized_tag : (w : Window) (right : List ℕ) → length (tag_with w right) ≡ left_size (size_of w) + length right
unfolding tag_text
sized_tag w right =
    let s = shown_of w in
    let undo = sized_word s.undo (codes " Undo") in
    let redo = sized_word s.redo (codes " Redo") in
    let put = sized_word (shows_put (size_of w)) (codes " Put") in
    let get = sized_word s.dir (codes " Get") in
    let all = all_lengths w.name (codes " Del Snarf") (word_if s.undo (codes " Undo")) (word_if s.redo (codes " Redo"))
    (word_if (shows_put (size_of w)) (codes " Put")) (word_if s.dir (codes " Get")) (codes " |") right in
    omega (arith, all, undo, redo, put, get)

sized_left : (w : Window) → left_len w ≡ left_size (size_of w)
sized_left w = sized_tag w [] ∙ omega arith

pub sized_whole : (w : Window) → tag_len w ≡ whole_size (size_of w)
sized_whole w = sized_tag w w.right

-- the item of a removal of this range
abbrev clear_of : Origin → Window → ℕ → ℕ → Option Item
clear_of origin w a b = cond (length w.right == 0) None (Some (plain_item origin TagDel (record { q0 = a; q1 = b }) []))

sized_cleared : (origin : Origin) (w : Window) → cleared_item origin w ≡ sized_clear origin (size_of w)
sized_cleared origin w =
    ap (λ a. clear_of origin w a (tag_len w)) (sized_left w) ∙ ap (λ b. clear_of origin w (left_size (size_of w)) b)
    (sized_whole w)

-- the removal, told by the size alone
pub cleared_is : (origin : Origin) (w : Window) (size : TagSize) (item : Option Item) → size ≡ size_of w
    → item ≡ sized_clear origin size → item ≡ cleared_item origin w
cleared_is origin w size item e h = h ∙ ap (sized_clear origin) e ∙ sym (sized_cleared origin w)
