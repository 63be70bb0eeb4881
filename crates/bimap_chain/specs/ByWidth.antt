-- The threads of a hashed index, by the width of their links. No public clause cites this module.
use Rattle.bimap_chain.specs.Threads.{Threading}
use Rattle.bimap_chain.specs.declared.hashed.ByWidth.{ByWidth}
use Rattle.bimap_chain.specs.declared.hashed.ByWidth.TheVariants.{Narrow, Wide}

-- These are the threads, whatever the width of their links.
abbrev pub threads_in : ByWidth → Threading
threads_in (Narrow threads) = threads
threads_in (Wide threads) = threads
