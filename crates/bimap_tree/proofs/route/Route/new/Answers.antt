use Rattle.std.proofs.Common.{◌≡◌, true, false, refl}
use Rattle.bimap_tree.specs.Path.{top}
use Rattle.bimap_tree.proofs.route.Route.new.Goals as goal

pub returns : goal.returns
returns c index go empty = record {
  noted = λ e. record { path = top; of_index = empty; follows = tt; depth_is = refl; wants = tt };
  past = λ e. absurd (let no : false ≡ true = e in cc);
}
