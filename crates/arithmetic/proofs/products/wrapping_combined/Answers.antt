-- Product by product and sum by sum modulo 2^64, which is the whole formula modulo 2^64.
use Rattle.arithmetic.proofs.ProductsLaws.{combined_once}
use Rattle.arithmetic.proofs.products.wrapping_combined.Goals as goal

pub returns : goal.returns
returns c = search (combined_once 64)
