mod Stock
