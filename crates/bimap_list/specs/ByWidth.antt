-- The cells of a list, by the width of their links. No public clause cites this module.
use Rattle.bimap_list.specs.Ring.{Listing}
use Rattle.bimap_list.specs.declared.linked_list.ByWidth.{ByWidth}
use Rattle.bimap_list.specs.declared.linked_list.ByWidth.TheVariants.{Narrow, Wide}

-- This is the list, whatever the width of its links.
abbrev pub ring_in : ByWidth → Listing
ring_in (Narrow ring) = ring
ring_in (Wide ring) = ring
