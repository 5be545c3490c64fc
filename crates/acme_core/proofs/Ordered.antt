-- The laws of the book, after a journal.
use Rattle.std.proofs.Common.{◌≡◌, List, subst}
use Rattle.am_journal.specs.declared.event.Journal.{Journal}
use Rattle.event_book.specs.Laws.{IsLawful, WindowOrder, WhatAFidGets}
use Rattle.event_book.proofs.FidLemmas.{gets, in_order}
use Rattle.core_parts.specs.declared.parts.Parts.{Parts}
use Rattle.core_parts.specs.Parts.{present_of}
use Rattle.acme_core.specs.Run.{run, present_after}
use Rattle.core_parts.specs.States.{Present}

lawful : (p : Parts) (journal : Journal) → present_of p ≡ present_after journal → IsLawful p.scene.book.kept
    → IsLawful (run journal).scene.book
lawful p journal e h = subst (λ (x : Present). IsLawful x.scene.book) e h

pub ordered : (p : Parts) (journal : Journal) → present_of p ≡ present_after journal → IsLawful p.scene.book.kept
    → WindowOrder (run journal).scene.book
ordered p journal e h = in_order (run journal).scene.book (lawful p journal e h)

pub given : (p : Parts) (journal : Journal) → present_of p ≡ present_after journal → IsLawful p.scene.book.kept
    → WhatAFidGets (run journal).scene.book
given p journal e h = gets (run journal).scene.book (lawful p journal e h)

pub ruleset book_laws = (ordered, given)
