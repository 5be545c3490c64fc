use Rattle.std.proofs.Common.{◌≡◌, sym, ap, ◌∙◌}
use Rattle.name_tree.specs.Lines.{lines_in, names_in}
use Rattle.name_tree.specs.Shape.{place_at}
use Rattle.name_tree.proofs.LineLemmas.{listing_is}
use Rattle.name_tree.proofs.places.Places.listing.Goals as goal

pub returns : goal.returns
returns c =
    let e : c.find-place.result ≡ place_at c.args.self.now.names c.front_of-front.result.now = c.find-place.ensures in
    c.in_ok-text.ensures.lines ∙ ap (λ p. lines_in c.args.self.now.nodes (names_in c.args.self.now.names p)) e
    ∙ sym (listing_is c.args.self.now c.requires.trie c.args.path.now c.front_of-front.result.now
    c.front_of-front.ensures (rw e at c.in_ok-text.ensures.ordered))
